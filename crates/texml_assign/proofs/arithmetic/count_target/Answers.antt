use Rattle.texml_scope.specs.Numbers.{key_at}
use Rattle.texml_expand.proofs.Stopping.{passed_on}
use Rattle.texml_assign.proofs.Doing.{does_then, does_stop}
use Rattle.texml_assign.specs.Arithmetic.{count_by}
use Rattle.texml_assign.specs.Targets.{target_key}
use Rattle.texml_assign.proofs.Quantities.{lawful_target, lawful_count_by}
use Rattle.texml_assign.proofs.arithmetic.count_target.Goals as goal

pub returns-in_err-key : goal.returns-in_err-key
returns-in_err-key g c =
    let old = c.args.engine.now in
    let h = does_stop _ _ (target_key c.args.target) (count_by c.args.global c.args.what) (lawful_target c.args.target) (lawful_count_by c.args.global c.args.what) _ _ _ _ _ _ _ c.requires.sound c.in_err-key.ensures.does in record { does = rw (passed_on c.from_residual.result c.in_err-key.field-0.0 c.from_residual.ensures) h }

pub returns : goal.returns
returns g c = record {
  does =
      let old = c.args.engine.now in let mid = c.target_key.new.engine in let new = c.count_by.new.engine in
      does_then _ _ (target_key c.args.target) (count_by c.args.global c.args.what) (lawful_target c.args.target) (lawful_count_by c.args.global c.args.what) (key_at mid.names c.in_ok-key.key) c.count_by.result _ mid new _ _ _ _ _ _ c.in_ok-key.ensures.does
      c.count_by.ensures.does;
}
