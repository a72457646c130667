use Rattle.std.proofs.Common.{[], None, Some, Err, refl}
use Rattle.texml_token.specs.Numbers.{token_at}
use Rattle.texml_token.specs.declared.fault_code.TheConstants.{FILE_ENDED}
use Rattle.texml_expand.specs.State.{fail}
use Rattle.texml_expand.specs.Hearing.{hears, hears_part}
use Rattle.texml_assign.specs.Operands.{token_or_end}
use Rattle.texml_assign.proofs.Parts.{plain_token_or_end}
use Rattle.texml_expand.proofs.Stopping.{passed_on}
use Rattle.texml_assign.proofs.Readings.{plain_fail, lawful_plain}
use Rattle.texml_assign.proofs.Doing.{does_then, does_stop, does_fault, does_judge}
use Rattle.texml_top.specs.Verb.{char_of, char_in}
use Rattle.texml_top.proofs.Verbs.{plain_char_of, plain_char_in}
use Rattle.texml_top.proofs.verb.next_char.Goals as goal

pub returns-in-Some : goal.returns-in-Some
returns-in-Some g c =
    let mid = c.token_or_end.new.engine in let d = rw c.in-Some.is at c.in_ok-token.ensures.does in let t = token_at mid.names c.in-Some.token in let m = c.char_of.ensures in let r = c.char_of.result in let far = c.char_of.new.engine in
    record {
      does =
          does_then (hears g.T.Teller.wanting g.T.Teller.heard) (hears_part g.T.Teller.wanting g.T.Teller.part) (λ n. token_or_end) (λ o n. char_in o) (lawful_plain token_or_end plain_token_or_end) (λ o. lawful_plain (char_in o) (plain_char_in o)) (Some t) r _ mid far _ _ _ _ _ _ d
          (does_judge _ _ (char_of t) (plain_char_of t) r mid far _ _ d.holds.owns m.gives m.kept m.keeps m.is);
    }

pub returns-in_err-token : goal.returns-in_err-token
returns-in_err-token g c = record {
  does =
      let h = does_stop _ _ (λ n. token_or_end) (λ o n. char_in o) (lawful_plain token_or_end plain_token_or_end) (λ o. lawful_plain (char_in o) (plain_char_in o)) _ _ _ _ _ _ _ c.requires.sound c.in_err-token.ensures.does in
      rw (passed_on c.from_residual.result c.in_err-token.field-0.0 c.from_residual.ensures) h;
}

pub returns-in-None : goal.returns-in-None
returns-in-None g c =
    let mid = c.token_or_end.new.engine in let d = rw c.in-None.is at c.in_ok-token.ensures.does in let e = c.bare_fault.result in let new = c.bare_fault.new.self in
    record {
      does =
          does_then (hears g.T.Teller.wanting g.T.Teller.heard) (hears_part g.T.Teller.wanting g.T.Teller.part) (λ n. token_or_end) (λ o n. char_in o) (lawful_plain token_or_end plain_token_or_end) (λ o. lawful_plain (char_in o) (plain_char_in o)) None (Err e) _ mid new _ _ _ _ _ _ d
          (does_fault _ _ (fail FILE_ENDED []) (plain_fail _ FILE_ENDED []) FILE_ENDED e mid new _ _ d.holds.owns (λ shelf. refl) c.bare_fault.ensures.is c.bare_fault.ensures.kept);
    }
