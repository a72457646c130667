use Rattle.texml_scope.specs.Numbers.{key_at, value_at}
use Rattle.texml_expand.specs.State.{change}
use Rattle.texml_expand.proofs.Stopping.{passed_on}
use Rattle.texml_assign.proofs.Parts.{plain_set}
use Rattle.texml_assign.proofs.Doing.{does_then, does_stop, does_local}
use Rattle.texml_assign.specs.Sets.{set}
use Rattle.texml_assign.specs.Assignments.{value_for}
use Rattle.texml_assign.proofs.Quantities.{lawful_value, lawful_set, same_key, key_given}
use Rattle.texml_assign.proofs.assignments.assign_next.Goals as goal

pub returns-in_err-value : goal.returns-in_err-value
returns-in_err-value g c =
    let old = c.args.engine.now in
    let h = does_stop _ _ (value_for (key_at old.names c.args.key)) (λ v n. change (set c.args.global (key_at old.names c.args.key) v)) (lawful_value (key_at old.names c.args.key)) (lawful_set c.args.global (key_at old.names c.args.key)) _ _ _ _ _ _ _ c.requires.sound c.in_err-value.ensures.does in record { does = rw (passed_on c.from_residual.result c.in_err-value.field-0.0 c.from_residual.ensures) h }

pub returns : goal.returns
returns g c = record {
  does =
      let old = c.args.engine.now in let mid = c.value_for.new.engine in let new = c.set.new.engine in
      does_then _ _ (value_for (key_at old.names c.args.key)) (λ v n. change (set c.args.global (key_at old.names c.args.key) v)) (lawful_value (key_at old.names c.args.key)) (lawful_set c.args.global (key_at old.names c.args.key)) (value_at mid.names c.in_ok-value.value) c.set.result _ mid new _ _ _ _ _ _ c.in_ok-value.ensures.does
      (does_local _ _ (change (set c.args.global (key_at old.names c.args.key) (value_at mid.names c.in_ok-value.value))) (plain_set c.args.global (key_at old.names c.args.key) (value_at mid.names c.in_ok-value.value)) c.set.result mid new _ _ c.in_ok-value.ensures.does.holds.owns (rw (same_key c.args.key c.requires.key old.names mid.names) c.set.ensures.sets) c.set.ensures.kept c.set.ensures.keeps c.set.ensures.advances c.set.ensures.files c.set.ensures.puts);
}

pub set-requires-clause-key : goal.set-requires-clause-key
set-requires-clause-key g c = key_given c.args.key c.requires.key _ _ c.requires.within
