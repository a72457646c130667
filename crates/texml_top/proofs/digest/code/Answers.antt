use Rattle.std.proofs.Common.{Ok, refl}
use Rattle.texml_expand.specs.State.{give}
use Rattle.texml_assign.proofs.Readings.{lawful_plain, plain_give}
use Rattle.texml_assign.proofs.Doing.{does_then, does_stop, does_now}
use Rattle.texml_top.specs.Verb.{verb}
use Rattle.texml_expand.proofs.Stopping.{passed_on}
use Rattle.texml_top.proofs.Verbs.{lawful_verb}
use Rattle.texml_top.proofs.Digesting.{code_ops}
use Rattle.texml_top.proofs.digest.code.Goals as goal

pub returns-in_err-text : goal.returns-in_err-text
returns-in_err-text g c = record {
  does =
      let h = does_stop _ _ verb (λ text n. give (code_ops text)) lawful_verb (λ text. lawful_plain (give (code_ops text)) (plain_give _)) _ _ _ _ _ _ _ c.requires.sound c.in_err-text.ensures.does in
      rw (passed_on c.from_residual.result c.in_err-text.field-0.0 c.from_residual.ensures) h;
}

pub returns : goal.returns
returns g c = record {
  does =
      let text = c.in_ok-text.text in let d = c.in_ok-text.ensures.does in let new = c.verb.new.engine in
      does_then _ _ verb (λ text n. give (code_ops text)) lawful_verb (λ text. lawful_plain (give (code_ops text)) (plain_give _)) text (Ok (code_ops text)) _ new new _ _ _ _ _ _ d
      (does_now _ _ (give (code_ops text)) (plain_give _) (code_ops text) new _ _ d.keeps.sound d.holds.owns d.stops.kept (λ shelf. refl));
}
