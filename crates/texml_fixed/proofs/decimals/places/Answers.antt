use Rattle.std.proofs.Common.{sym, arith, ◌∙◌}
use Rattle.texml_fixed.specs.Decimals.{reads_back}
use Rattle.texml_fixed.proofs.Places.{first_passes, none_passes}
use Rattle.texml_fixed.proofs.decimals.places.Goals as goal

pub returns-then-reads_back-clause-value : goal.returns-then-reads_back-clause-value
returns-then-reads_back-clause-value c =
    sym (first_passes (reads_back c.args.fraction) c.loop-place.place (omega arith) (omega arith) c.loop-place.invariant
    (sym c.reads_back.ensures ∙ c.if-reads_back.true))

pub returns-clause-value : goal.returns-clause-value
returns-clause-value c =
    sym (none_passes (reads_back c.args.fraction) (λ j low high. c.loop-place.invariant j low (omega arith)))
