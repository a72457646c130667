use Rattle.texml_scope.specs.Numbers.{key_at}
use Rattle.texml_expand.proofs.Stopping.{passed_on}
use Rattle.texml_assign.proofs.Readings.{lawful_plain}
use Rattle.texml_assign.proofs.Parts.{plain_next_key}
use Rattle.texml_assign.proofs.Doing.{does_then, does_stop}
use Rattle.texml_assign.specs.ShortNames.{short_key}
use Rattle.texml_assign.specs.Operands.{next_key}
use Rattle.texml_assign.proofs.Quantities.{lawful_short_key}
use Rattle.texml_assign.proofs.short_names.short_name.Goals as goal

pub returns-in_err-key : goal.returns-in_err-key
returns-in_err-key g c =
    let old = c.args.engine.now in
    let h = does_stop _ _ (λ n. next_key) (short_key c.args.global c.args.what) (lawful_plain next_key plain_next_key) (lawful_short_key c.args.global c.args.what) _ _ _ _ _ _ _ c.requires.sound c.in_err-key.ensures.does in record { does = rw (passed_on c.from_residual.result c.in_err-key.field-0.0 c.from_residual.ensures) h }

pub returns : goal.returns
returns g c = record {
  does =
      let old = c.args.engine.now in let mid = c.next_key.new.engine in let new = c.short_key.new.engine in
      does_then _ _ (λ n. next_key) (short_key c.args.global c.args.what) (lawful_plain next_key plain_next_key) (lawful_short_key c.args.global c.args.what) (key_at mid.names c.in_ok-key.key) c.short_key.result _ mid new _ _ _ _ _ _ c.in_ok-key.ensures.does
      c.short_key.ensures.does;
}
