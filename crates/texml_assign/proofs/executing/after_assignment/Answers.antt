use Rattle.std.proofs.Common.{Some, Ok, sym, ap, ◌∙◌}
use Rattle.texml_token.specs.Numbers.{token_at}
use Rattle.texml_expand.specs.State.{Done, nothing, change}
use Rattle.texml_expand.specs.Held.{Held, state_of}
use Rattle.texml_assign.specs.Operands.{next_token}
use Rattle.texml_assign.specs.Sets.{keep_token}
use Rattle.texml_expand.proofs.Stopping.{passed_on}
use Rattle.texml_assign.proofs.Readings.{sure_change, lawful_plain}
use Rattle.texml_assign.proofs.Doing.{does_stop_sure, does_put}
use Rattle.texml_assign.proofs.Worlds.{kept_set, advances_set, files_set, puts_set}
use Rattle.texml_assign.proofs.Commands.{plain_next}
use Rattle.texml_assign.proofs.executing.after_assignment.Goals as goal

pub returns-in_err-token : goal.returns-in_err-token
returns-in_err-token g c =
    let h = does_stop_sure _ _ (λ n. next_token) (λ t n. change (keep_token t)) (lawful_plain next_token plain_next) (λ t. sure_change (keep_token t)) _ _ _ _ _ _ _ c.requires.sound c.in_err-token.ensures.does in record { does = rw (passed_on c.from_residual.result c.in_err-token.field-0.0 c.from_residual.ensures) h }

pub returns : goal.returns
returns g c = record {
  does =
      let mid = c.next_token.new.engine in let t = token_at mid.names c.in_ok-token.token in let f = c.in_ok-token.ensures in let new = c.keep.new.self in
      does_put _ _ 1 (λ n. next_token) (λ t. change (keep_token t)) (lawful_plain next_token plain_next) (λ t s. tt) (λ t s. tt) t (Ok tt) _ mid new _ _ _ _ f.does f.takes
      (λ shelf. ap (λ (m : Held). Done tt (state_of shelf m) nothing) (sym c.keep.ensures)) (ap (λ (m : Held). m.stop) c.keep.ensures ∙ f.does.stops.kept)
      (kept_set mid new c.in_ok-token.token f.does.keeps.sound f.within c.keep.ensures) (advances_set mid new (Some c.in_ok-token.token) c.keep.ensures) (files_set mid new (Some c.in_ok-token.token) c.keep.ensures) (puts_set mid new c.in_ok-token.token c.keep.ensures);
}
