use Rattle.texml_token.specs.Numbers.{token_at}
use Rattle.texml_assign.specs.Operands.{next_token}
use Rattle.texml_assign.specs.NewIf.{new_if_of}
use Rattle.texml_expand.proofs.Stopping.{passed_on}
use Rattle.texml_assign.proofs.Readings.{lawful_plain}
use Rattle.texml_assign.proofs.Doing.{does_then, does_stop, does_local}
use Rattle.texml_assign.proofs.Commands.{plain_next}
use Rattle.texml_assign.proofs.NewConditionals.{plain_new_if_of}
use Rattle.texml_assign.proofs.new_if.new_if.Goals as goal

pub returns-in_err-token : goal.returns-in_err-token
returns-in_err-token g c =
    let h = does_stop _ _ (λ n. next_token) (λ t n. new_if_of t) (lawful_plain next_token plain_next) (λ t. lawful_plain (new_if_of t) (plain_new_if_of t)) _ _ _ _ _ _ _ c.requires.sound c.in_err-token.ensures.does in
    record { does = rw (passed_on c.from_residual.result c.in_err-token.field-0.0 c.from_residual.ensures) h }

pub returns : goal.returns
returns g c = record {
  does =
      let mid = c.next_token.new.engine in let t = token_at mid.names c.in_ok-token.token in let new = c.new_if_of.new.engine in let r = c.new_if_of.ensures in
      does_then _ _ (λ n. next_token) (λ t n. new_if_of t) (lawful_plain next_token plain_next) (λ t. lawful_plain (new_if_of t) (plain_new_if_of t)) t c.new_if_of.result _ mid new _ _ _ _ _ _ c.in_ok-token.ensures.does
      (does_local _ _ (new_if_of t) (plain_new_if_of t) c.new_if_of.result mid new _ _ c.in_ok-token.ensures.does.holds.owns r.makes r.kept r.keeps r.advances r.files r.puts);
}
