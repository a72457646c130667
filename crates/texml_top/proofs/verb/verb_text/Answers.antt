use Rattle.texml_assign.proofs.Readings.{lawful_plain}
use Rattle.texml_assign.proofs.Doing.{does_then, does_stop}
use Rattle.texml_top.specs.Verb.{delimiter, text_to}
use Rattle.texml_expand.proofs.Stopping.{passed_on}
use Rattle.texml_top.proofs.Verbs.{plain_delimiter, lawful_text_to}
use Rattle.texml_top.proofs.verb.verb_text.Goals as goal

pub returns-in_err-end : goal.returns-in_err-end
returns-in_err-end g c = record {
  does =
      let h = does_stop _ _ (λ n. delimiter) text_to (lawful_plain delimiter plain_delimiter) lawful_text_to _ _ _ _ _ _ _ c.requires.sound c.in_err-end.ensures.does in
      rw (passed_on c.from_residual.result c.in_err-end.field-0.0 c.from_residual.ensures) h;
}

pub returns : goal.returns
returns g c = record {
  does =
      does_then _ _ (λ n. delimiter) text_to (lawful_plain delimiter plain_delimiter) lawful_text_to c.in_ok-end.end _ _ _ _ _ _ _ _ _ _ c.in_ok-end.ensures.does c.text_to.ensures.does;
}
