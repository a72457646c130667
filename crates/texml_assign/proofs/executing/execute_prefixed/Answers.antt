use Rattle.texml_assign.specs.Table.{no_prefixes, with_prefix}
use Rattle.texml_assign.specs.Execute.{perform, prefixed}
use Rattle.texml_expand.proofs.Stopping.{passed_on}
use Rattle.texml_assign.proofs.Doing.{does_then, does_stop}
use Rattle.texml_assign.proofs.Commands.{lawful_prefixed, lawful_perform}
use Rattle.texml_assign.proofs.executing.execute_prefixed.Goals as goal

pub returns-in_err-found : goal.returns-in_err-found
returns-in_err-found g c =
    let p = with_prefix no_prefixes c.args.prefix in
    let d = rw c.with_prefix-first.ensures at c.in_err-found.ensures.does in
    let h = does_stop _ _ (prefixed p) (λ f. perform f.0 f.1) (lawful_prefixed p) (λ f. lawful_perform f.0 f.1) _ _ _ _ _ _ _ c.requires.sound d in record { does = rw (passed_on c.from_residual.result c.in_err-found.field-0.0 c.from_residual.ensures) h }

pub returns : goal.returns
returns g c = record {
  does =
      let p = with_prefix no_prefixes c.args.prefix in
      let d = rw c.with_prefix-first.ensures at c.in_ok-found.ensures.does in
      does_then _ _ (prefixed p) (λ f. perform f.0 f.1) (lawful_prefixed p) (λ f. lawful_perform f.0 f.1) c.in_ok-found.found _ _ _ _ _ _ _ _ _ _ d c.perform.ensures.does;
}
