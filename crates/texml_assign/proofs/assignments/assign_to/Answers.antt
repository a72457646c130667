use Rattle.texml_scope.specs.Numbers.{key_at}
use Rattle.texml_expand.proofs.Stopping.{passed_on}
use Rattle.texml_assign.proofs.Doing.{does_then, does_stop}
use Rattle.texml_assign.specs.Assignments.{assign_next}
use Rattle.texml_assign.specs.Fillers.{optional_equals}
use Rattle.texml_assign.proofs.Quantities.{lawful_equals, lawful_assign_next, same_key}
use Rattle.texml_assign.proofs.assignments.assign_to.Goals as goal

pub returns-in_err-optional_equals : goal.returns-in_err-optional_equals
returns-in_err-optional_equals g c =
    let old = c.args.engine.now in
    let h = does_stop _ _ optional_equals (λ _. assign_next c.args.global (key_at old.names c.args.key)) lawful_equals (λ _. lawful_assign_next c.args.global (key_at old.names c.args.key)) _ _ _ _ _ _ _ c.requires.sound c.in_err-optional_equals.ensures.does in
    record { does = rw (passed_on c.from_residual.result c.in_err-optional_equals.field-0.0 c.from_residual.ensures) h }

pub returns : goal.returns
returns g c = record {
  does =
      let old = c.args.engine.now in let mid = c.optional_equals.new.engine in let new = c.assign_next.new.engine in
      does_then _ _ optional_equals (λ _. assign_next c.args.global (key_at old.names c.args.key)) lawful_equals (λ _. lawful_assign_next c.args.global (key_at old.names c.args.key)) tt c.assign_next.result _ mid new _ _ _ _ _ _ c.in_ok-optional_equals.ensures.does
      (rw (same_key c.args.key c.requires.key old.names mid.names) c.assign_next.ensures.does);
}
