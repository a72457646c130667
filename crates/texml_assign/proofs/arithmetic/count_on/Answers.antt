use Rattle.texml_scope.specs.Numbers.{key_at}
use Rattle.texml_expand.specs.State.{change}
use Rattle.texml_expand.proofs.Stopping.{passed_on}
use Rattle.texml_assign.proofs.Parts.{plain_set}
use Rattle.texml_assign.proofs.Doing.{does_then, does_stop, does_local}
use Rattle.texml_assign.specs.Sets.{set}
use Rattle.texml_assign.specs.Arithmetic.{computed, value_from}
use Rattle.texml_assign.proofs.Quantities.{lawful_computed, lawful_set, same_key, counted_variable, count_value}
use Rattle.texml_assign.proofs.arithmetic.count_on.Goals as goal

pub returns-in_err-new : goal.returns-in_err-new
returns-in_err-new g c =
    let old = c.args.engine.now in
    let h = does_stop _ _ (computed c.args.what c.args.old) (λ k n. change (set c.args.global (key_at old.names c.args.key) (value_from k))) (lawful_computed c.args.what c.args.old) (λ k. lawful_set c.args.global (key_at old.names c.args.key) (value_from k)) _ _ _ _ _ _ _ c.requires.sound c.in_err-new.ensures.does in record { does = rw (passed_on c.from_residual.result c.in_err-new.field-0.0 c.from_residual.ensures) h }

pub returns : goal.returns
returns g c = record {
  does =
      let old = c.args.engine.now in let mid = c.computed.new.engine in let new = c.set.new.engine in
      does_then _ _ (computed c.args.what c.args.old) (λ k n. change (set c.args.global (key_at old.names c.args.key) (value_from k))) (lawful_computed c.args.what c.args.old) (λ k. lawful_set c.args.global (key_at old.names c.args.key) (value_from k)) c.in_ok-new.new c.set.result _ mid new _ _ _ _ _ _ c.in_ok-new.ensures.does
      (does_local _ _ (change (set c.args.global (key_at old.names c.args.key) (value_from c.in_ok-new.new))) (plain_set c.args.global (key_at old.names c.args.key) (value_from c.in_ok-new.new)) c.set.result mid new _ _ c.in_ok-new.ensures.does.holds.owns (rw ((same_key c.args.key (counted_variable c.args.key c.requires.key) old.names mid.names), ← count_value mid.names c.in_ok-new.new, ← c.value_from.ensures) c.set.ensures.sets) c.set.ensures.kept c.set.ensures.keeps c.set.ensures.advances c.set.ensures.files c.set.ensures.puts);
}
