use Rattle.texml_token.specs.Numbers.{token_at}
use Rattle.texml_expand.specs.State.{change}
use Rattle.texml_assign.specs.Operands.{next_token}
use Rattle.texml_assign.specs.Sets.{read_after}
use Rattle.texml_expand.proofs.Stopping.{passed_on}
use Rattle.texml_assign.proofs.Readings.{sure_change, lawful_plain}
use Rattle.texml_assign.proofs.Doing.{does_stop_sure, does_put}
use Rattle.texml_assign.proofs.Commands.{plain_next}
use Rattle.texml_assign.proofs.executing.after_group.Goals as goal

pub returns-in_err-token : goal.returns-in_err-token
returns-in_err-token g c =
    let h = does_stop_sure _ _ (λ n. next_token) (λ t n. change (read_after t)) (lawful_plain next_token plain_next) (λ t. sure_change (read_after t)) _ _ _ _ _ _ _ c.requires.sound c.in_err-token.ensures.does in record { does = rw (passed_on c.from_residual.result c.in_err-token.field-0.0 c.from_residual.ensures) h }

pub returns : goal.returns
returns g c = record {
  does =
      let mid = c.next_token.new.engine in let t = token_at mid.names c.in_ok-token.token in let r = c.read_after.ensures in
      does_put _ _ 1 (λ n. next_token) (λ t. change (read_after t)) (lawful_plain next_token plain_next) (λ t s. tt) (λ t s. tt) t c.read_after.result _ mid c.read_after.new.engine _ _ _ _ c.in_ok-token.ensures.does c.in_ok-token.ensures.takes
      r.keeps_token r.kept r.keeps r.advances r.files r.puts;
}
