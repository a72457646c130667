use Rattle.std.proofs.Common.{length, Ok, sym, subst, rules}
use Rattle.texml_token.specs.Numbers.{TokensWithin}
use Rattle.texml_token.specs.declared.tokens.Tokens.{Tokens}
use Rattle.texml_expand.specs.Held.{Held}
use Rattle.texml_expand.specs.Hearing.{hears, hears_part}
use Rattle.texml_expand.proofs.Meeting.{part_untold, stops_as}
use Rattle.texml_expand.proofs.Fronts.{finished_kept}
use Rattle.texml_expand.proofs.engine.Engine.copied.Goals as goal

pub returns-in-Err-clause-copies : goal.returns-in-Err-clause-copies
returns-in-Err-clause-copies g c = rw c.no_memory.ensures.is (λ shelf. part_untold (hears g.T.Teller.wanting g.T.Teller.heard) (hears_part g.T.Teller.wanting g.T.Teller.part) _ c.args.tell.now)

pub finish_with-requires-clause-back : goal.finish_with-requires-clause-back
finish_with-requires-clause-back g c = (c.in-Ok.ensures.within _ c.requires.internal).back

pub finish_with-requires-clause-told : goal.finish_with-requires-clause-told
finish_with-requires-clause-told g c = (c.in-Ok.ensures.within _ c.requires.internal).told

pub returns-in_err-finish_with-clause-stops : goal.returns-in_err-finish_with-clause-stops
returns-in_err-finish_with-clause-stops g c = λ shelf faults.
    let h = stops_as (Unit {0}) Tokens _ _ _ _ (c.in_err-finish_with.ensures.stops shelf faults) in
    search (rules, h)

pub returns-clause-stops : goal.returns-clause-stops
returns-clause-stops g c = λ shelf faults.
    let h = c.in_ok-finish_with.ensures.stops shelf faults in
    record { kept = h.kept; reads = h.reads; tells = h.tells; loan = h.loan }

pub returns-clause-keeps : goal.returns-clause-keeps
returns-clause-keeps g c =
    finished_kept c.args.self.now c.finish_with.new.self c.in-Ok.parts.back (Ok tt) c.in_ok-finish_with.ensures.is c.requires.sound (c.in-Ok.ensures.within _ c.requires.internal).back

pub returns-clause-within : goal.returns-clause-within
returns-clause-within g c =
    subst (λ (h : Held). TokensWithin (length h.names) c.in-Ok.parts.kept) (sym c.in_ok-finish_with.ensures.is) (c.in-Ok.ensures.within _ c.requires.internal).kept
