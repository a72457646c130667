use Rattle.std.proofs.Common.{ap}
use Rattle.texml_expand.specs.Held.{state_of}
use Rattle.texml_expand.proofs.Stopping.{passed_on}
use Rattle.texml_assign.proofs.Readings.{lawful_plain}
use Rattle.texml_assign.proofs.Doing.{does_then, does_stop, does_as}
use Rattle.texml_top.specs.Verb.{next_char, behind_star}
use Rattle.texml_top.proofs.Verbs.{plain_next_char, plain_behind_star}
use Rattle.texml_top.proofs.verb.delimiter.Goals as goal

pub returns : goal.returns
returns g c = record {
  does =
      let first = c.in_ok-first.first in let mid = c.next_char.new.engine in
      does_then _ _ (λ n. next_char) (λ c n. behind_star c) (lawful_plain next_char plain_next_char) (λ c. lawful_plain (behind_star c) (plain_behind_star c)) first _ _ mid _ _ _ _ _ _ _ c.in_ok-first.ensures.does
      (does_as _ _ (λ n. behind_star first) (λ n. next_char) c.next_char-2.result mid c.next_char-2.new.engine _ _ _ _ (λ n shelf. ap (λ x. behind_star x (state_of shelf mid)) c.if-first-ne-STAR.false) c.next_char-2.ensures.does);
}

pub returns-in_err-first : goal.returns-in_err-first
returns-in_err-first g c = record {
  does =
      let h = does_stop _ _ (λ n. next_char) (λ c n. behind_star c) (lawful_plain next_char plain_next_char) (λ c. lawful_plain (behind_star c) (plain_behind_star c)) _ _ _ _ _ _ _ c.requires.sound c.in_err-first.ensures.does in
      rw (passed_on c.from_residual.result c.in_err-first.field-0.0 c.from_residual.ensures) h;
}
