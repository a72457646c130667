use Rattle.texml_scope.specs.Numbers.{key_at}
use Rattle.texml_expand.proofs.Stopping.{passed_on}
use Rattle.texml_assign.proofs.Doing.{does_then, does_stop}
use Rattle.texml_assign.specs.Assignments.{assign_to}
use Rattle.texml_assign.specs.Targets.{target_key}
use Rattle.texml_assign.proofs.Quantities.{lawful_target, lawful_assign_to}
use Rattle.texml_assign.proofs.assignments.assignment.Goals as goal

pub returns-in_err-key : goal.returns-in_err-key
returns-in_err-key g c =
    let old = c.args.engine.now in
    let h = does_stop _ _ (target_key c.args.target) (assign_to c.args.global) (lawful_target c.args.target) (lawful_assign_to c.args.global) _ _ _ _ _ _ _ c.requires.sound c.in_err-key.ensures.does in record { does = rw (passed_on c.from_residual.result c.in_err-key.field-0.0 c.from_residual.ensures) h }

pub returns : goal.returns
returns g c = record {
  does =
      let old = c.args.engine.now in let mid = c.target_key.new.engine in let new = c.assign_to.new.engine in
      does_then _ _ (target_key c.args.target) (assign_to c.args.global) (lawful_target c.args.target) (lawful_assign_to c.args.global) (key_at mid.names c.in_ok-key.key) c.assign_to.result _ mid new _ _ _ _ _ _ c.in_ok-key.ensures.does
      c.assign_to.ensures.does;
}
