use Rattle.std.proofs.Common.{◌≡◌, length, subst, sym, ap, ◌∙◌, Ok, Err}
use Rattle.std.proofs.lemmas.Result.{on_ok_weaker}
use Rattle.texml_token.specs.Numbers.{tokens_at, TokensWithin}
use Rattle.texml_scope.specs.Groups.{end_group}
use Rattle.texml_expand.specs.Expand.{put}
use Rattle.texml_scope.specs.Values.{same_kind}
use Rattle.texml_scope.specs.Shown.{Shown, world_of}
use Rattle.texml_expand.specs.Held.{Held}
use Rattle.texml_expand.proofs.Fronts.{kept_then}
use Rattle.texml_expand.proofs.Running.{files_stopped}
use Rattle.texml_expand.proofs.Progress.{progress_then}
use Rattle.texml_assign.proofs.Doing.{files_then}
use Rattle.texml_assign.proofs.Worlds.{scope_kept, end_puts, end_stops, end_keeps, puts_ended, files_wrote, advances_wrote, advances_stops, advances_put, put_writes, end_few, end_many}
use Rattle.texml_assign.proofs.sets.end_group.Goals as goal

pub put-requires-clause-sound : goal.put-requires-clause-sound
put-requires-clause-sound c = λ running.
    let h = c.args.engine.now in let s = c.end-ended.new.self in
    let k = end_keeps h s c.args.kind c.in-Ok.after c.requires.sound (subst (λ (w : Shown). (world_of s, Ok c.in-Ok.after) ≡ end_group same_kind c.args.kind (world_of w)) c.scope.ensures.value c.in-Ok.ensures.ends) in
    (scope_kept h c.wrote.new.self s _ c.requires.sound k.0 c.wrote.ensures).sound

pub put-requires-clause-tokens : goal.put-requires-clause-tokens
put-requires-clause-tokens c = λ running.
    let h = c.args.engine.now in let s = c.end-ended.new.self in
    let k = end_keeps h s c.args.kind c.in-Ok.after c.requires.sound (subst (λ (w : Shown). (world_of s, Ok c.in-Ok.after) ≡ end_group same_kind c.args.kind (world_of w)) c.scope.ensures.value c.in-Ok.ensures.ends) in
    subst (λ (h : Held). TokensWithin (length h.names) c.in-Ok.after) (sym c.wrote.ensures) k.1

pub returns-in-Ok-clause-ends : goal.returns-in-Ok-clause-ends
returns-in-Ok-clause-ends c =
    let h = c.args.engine.now in let s = c.end-ended.new.self in
    let running = ap (λ (h : Held). h.stop) c.wrote.ensures ∙ c.requires.running in
    end_puts h c.wrote.new.self c.put.new.self s c.args.kind c.in-Ok.after _ c.put.result c.requires.sound c.requires.kind (subst (λ (w : Shown). (world_of s, Ok c.in-Ok.after) ≡ end_group same_kind c.args.kind (world_of w)) c.scope.ensures.value c.in-Ok.ensures.ends) c.wrote.ensures (c.put.ensures.put running)

pub returns-in-Ok-clause-keeps : goal.returns-in-Ok-clause-keeps
returns-in-Ok-clause-keeps c =
    let h = c.args.engine.now in let s = c.end-ended.new.self in
    let running = ap (λ (h : Held). h.stop) c.wrote.ensures ∙ c.requires.running in
    let k = end_keeps h s c.args.kind c.in-Ok.after c.requires.sound (subst (λ (w : Shown). (world_of s, Ok c.in-Ok.after) ≡ end_group same_kind c.args.kind (world_of w)) c.scope.ensures.value c.in-Ok.ensures.ends) in
    on_ok_weaker c.put.result (kept_then h c.wrote.new.self c.put.new.self (scope_kept h c.wrote.new.self s _ c.requires.sound k.0 c.wrote.ensures)) (c.put.ensures.keeps running)

pub returns-in-Ok-clause-advances : goal.returns-in-Ok-clause-advances
returns-in-Ok-clause-advances c =
    let h = c.args.engine.now in let running = ap (λ (h : Held). h.stop) c.wrote.ensures ∙ c.requires.running in
    progress_then h c.wrote.new.self c.put.new.self (advances_wrote h c.wrote.new.self c.end-ended.new.self _ c.wrote.ensures) (advances_put c.wrote.new.self c.put.new.self (put (tokens_at c.wrote.new.self.names c.in-Ok.after)) c.put.result (c.put.ensures.put running) (c.put.ensures.rest running))

pub returns-in-Ok-clause-files : goal.returns-in-Ok-clause-files
returns-in-Ok-clause-files c = files_then (files_wrote c.args.engine.now c.wrote.new.self c.end-ended.new.self _ c.wrote.ensures) c.put.ensures.files

pub returns-in-Ok-clause-puts : goal.returns-in-Ok-clause-puts
returns-in-Ok-clause-puts c =
    let h = c.args.engine.now in let s = c.end-ended.new.self in
    let running = ap (λ (h : Held). h.stop) c.wrote.ensures ∙ c.requires.running in
    on_ok_weaker c.put.result (puts_ended h c.wrote.new.self c.put.new.self s c.args.kind c.in-Ok.after _ (subst (λ (w : Shown). (world_of s, Ok c.in-Ok.after) ≡ end_group same_kind c.args.kind (world_of w)) c.scope.ensures.value c.in-Ok.ensures.ends) c.wrote.ensures) (c.put.ensures.puts running)

pub returns-in-Err-clause-ends : goal.returns-in-Err-clause-ends
returns-in-Err-clause-ends c = λ shelf.
    let s = c.end-ended.new.self in let f = c.in-Err.fault in
    end_stops shelf c.args.engine.now c.wrote.new.self c.bare_fault.new.self s c.args.kind _ c.bare_fault.result f c.requires.sound c.requires.kind (subst (λ (w : Shown). (world_of s, Err f) ≡ end_group same_kind c.args.kind (world_of w)) c.scope.ensures.value c.in-Err.ensures.ends) c.wrote.ensures (rw (← c.end_code.ensures) c.bare_fault.ensures.is)

pub returns-in-Err-clause-advances : goal.returns-in-Err-clause-advances
returns-in-Err-clause-advances c = advances_stops c.args.engine.now c.wrote.new.self c.bare_fault.new.self c.end-ended.new.self _ _ c.wrote.ensures c.bare_fault.ensures.kept

pub returns-in-Err-clause-files : goal.returns-in-Err-clause-files
returns-in-Err-clause-files c = files_then (files_wrote c.args.engine.now c.wrote.new.self c.end-ended.new.self _ c.wrote.ensures) (files_stopped c.wrote.new.self c.bare_fault.new.self _ c.bare_fault.ensures.kept)

pub returns-in-Ok-clause-few : goal.returns-in-Ok-clause-few
returns-in-Ok-clause-few c =
    let running = ap (λ (h : Held). h.stop) c.wrote.ensures ∙ c.requires.running in
    let w = put_writes c.wrote.new.self c.put.new.self (put (tokens_at c.wrote.new.self.names c.in-Ok.after)) c.put.result (c.put.ensures.put running) (c.put.ensures.rest running) in
    end_few c.args.engine.now c.wrote.new.self c.put.new.self c.end-ended.new.self _ _ c.wrote.ensures w.0 (rw (c.scope.ensures.value, c.new-steps.ensures) at c.in-Ok.ensures.few)

pub returns-in-Ok-clause-many : goal.returns-in-Ok-clause-many
returns-in-Ok-clause-many c =
    let running = ap (λ (h : Held). h.stop) c.wrote.ensures ∙ c.requires.running in
    let w = put_writes c.wrote.new.self c.put.new.self (put (tokens_at c.wrote.new.self.names c.in-Ok.after)) c.put.result (c.put.ensures.put running) (c.put.ensures.rest running) in
    end_many c.args.engine.now c.wrote.new.self c.put.new.self c.end-ended.new.self _ c.wrote.ensures w (rw (c.scope.ensures.value, c.new-steps.ensures) at c.in-Ok.ensures.many)

pub returns-in-Err-clause-few : goal.returns-in-Err-clause-few
returns-in-Err-clause-few c =
    end_few c.args.engine.now c.wrote.new.self c.bare_fault.new.self c.end-ended.new.self _ _ c.wrote.ensures (ap (λ (h : Held). h.writes) c.bare_fault.ensures.kept) (rw (c.scope.ensures.value, c.new-steps.ensures) at c.in-Err.ensures.few)

pub returns-in-Err-clause-many : goal.returns-in-Err-clause-many
returns-in-Err-clause-many c =
    let kept = c.bare_fault.ensures.kept in
    end_many c.args.engine.now c.wrote.new.self c.bare_fault.new.self c.end-ended.new.self _ c.wrote.ensures (ap (λ (h : Held). h.writes) kept, ap (λ (h : Held). h.scope) kept) (rw (c.scope.ensures.value, c.new-steps.ensures) at c.in-Err.ensures.many)
