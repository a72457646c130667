use Rattle.std.proofs.Common.{Bool, if◌then◌else◌, Ok, sym, ap, ◌∙◌}
use Rattle.texml_expand.specs.State.{give, change}
use Rattle.texml_expand.specs.Held.{state_of}
use Rattle.texml_assign.specs.Sets.{put_kept}
use Rattle.texml_assign.specs.Execute.{row, behind}
use Rattle.texml_assign.proofs.Readings.{lawful_plain}
use Rattle.texml_expand.proofs.Stopping.{passed_on}
use Rattle.texml_assign.proofs.Doing.{does_then, does_stop, does_now, does_as, does_local}
use Rattle.texml_assign.proofs.Commands.{lawful_row, plain_behind, plain_put_kept}
use Rattle.texml_assign.proofs.executing.perform.Goals as goal

pub returns-in_err-row : goal.returns-in_err-row
returns-in_err-row g c =
    let p = c.args.prefixes in let k = c.args.command in
    let h = does_stop _ _ (row p k) (λ _ n. behind k) (lawful_row p k) (λ _. lawful_plain (behind k) (plain_behind k)) _ _ _ _ _ _ _ c.requires.sound c.in_err-row.ensures.does in
    record { does = rw (passed_on c.from_residual.result c.in_err-row.field-0.0 c.from_residual.ensures) h }

pub returns-then-not-is_assignment : goal.returns-then-not-is_assignment
returns-then-not-is_assignment g c = record {
  does =
      let p = c.args.prefixes in let k = c.args.command in let mid = c.row.new.engine in let f = c.in_ok-row.ensures.does in
      does_then _ _ (row p k) (λ _ n. behind k) (lawful_row p k) (λ _. lawful_plain (behind k) (plain_behind k)) tt (Ok tt) _ mid mid _ _ _ _ _ _ f
      (does_now _ _ (behind k) (plain_behind k) tt mid _ _ f.keeps.sound f.holds.owns f.stops.kept (λ shelf. ap (λ (b : Bool). (if b then change put_kept else give tt) (state_of shelf mid)) (sym c.is_assignment.ensures ∙ c.if-not-is_assignment.true)));
}

pub returns : goal.returns
returns g c = record {
  does =
      let p = c.args.prefixes in let k = c.args.command in let mid = c.row.new.engine in let f = c.in_ok-row.ensures.does in let r = c.put_kept.ensures in let new = c.put_kept.new.engine in
      does_then _ _ (row p k) (λ _ n. behind k) (lawful_row p k) (λ _. lawful_plain (behind k) (plain_behind k)) tt c.put_kept.result _ mid new _ _ _ _ _ _ f
      (does_as _ _ (λ n. behind k) (λ n. change put_kept) c.put_kept.result mid new _ _ _ _ (λ n shelf. ap (λ (b : Bool). (if b then change put_kept else give tt) (state_of shelf mid)) (sym c.is_assignment.ensures ∙ c.if-not-is_assignment.false))
      (does_local _ _ (change put_kept) plain_put_kept c.put_kept.result mid new _ _ f.holds.owns r.changes r.kept r.keeps r.advances r.files r.puts));
}
