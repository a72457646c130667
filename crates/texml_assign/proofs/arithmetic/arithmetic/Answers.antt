use Rattle.texml_expand.proofs.Stopping.{passed_on}
use Rattle.texml_assign.proofs.Doing.{does_then, does_stop}
use Rattle.texml_assign.specs.Arithmetic.{next_counted, count_target}
use Rattle.texml_assign.proofs.Quantities.{lawful_next_counted, lawful_count_target}
use Rattle.texml_assign.proofs.arithmetic.arithmetic.Goals as goal

pub returns-in_err-target : goal.returns-in_err-target
returns-in_err-target g c =
    let old = c.args.engine.now in
    let h = does_stop _ _ next_counted (count_target c.args.global c.args.what) lawful_next_counted (lawful_count_target c.args.global c.args.what) _ _ _ _ _ _ _ c.requires.sound c.in_err-target.ensures.does in record { does = rw (passed_on c.from_residual.result c.in_err-target.field-0.0 c.from_residual.ensures) h }

pub returns : goal.returns
returns g c = record {
  does =
      let old = c.args.engine.now in let mid = c.next_counted.new.engine in let new = c.count_target.new.engine in
      does_then _ _ next_counted (count_target c.args.global c.args.what) lawful_next_counted (lawful_count_target c.args.global c.args.what) c.in_ok-target.target c.count_target.result _ mid new _ _ _ _ _ _ c.in_ok-target.ensures.does
      c.count_target.ensures.does;
}
