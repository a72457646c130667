use Rattle.std.proofs.Common.{None, false, length, sym, subst, ap, ◌∙◌}
use Rattle.std.proofs.lemmas.Result.{on_ok_weaker}
use Rattle.texml_token.specs.Numbers.{token_at, TokenWithin}
use Rattle.texml_expand.specs.Expand.{back}
use Rattle.texml_expand.specs.Held.{Held}
use Rattle.texml_expand.proofs.Fronts.{kept_then}
use Rattle.texml_assign.proofs.Worlds.{kept_none, kept_some, kept_gone, kept_within, advances_put, advances_set, files_set, puts_kept, gone_kept}
use Rattle.texml_expand.proofs.Progress.{progress_then}
use Rattle.texml_assign.proofs.Doing.{files_then}
use Rattle.texml_assign.proofs.sets.put_kept.Goals as goal

pub returns-in-None-clause-changes : goal.returns-in-None-clause-changes
returns-in-None-clause-changes c = kept_none c.args.engine.now (sym c.in-None.ensures)

pub back-requires-clause-sound : goal.back-requires-clause-sound
back-requires-clause-sound c = λ running. kept_gone c.args.engine.now c.keep.new.self c.requires.sound c.keep.ensures

pub back-requires-clause-token : goal.back-requires-clause-token
back-requires-clause-token c = λ running.
    subst (λ (h : Held). TokenWithin (length h.names) c.in-Some.token) (sym c.keep.ensures) (kept_within c.args.engine.now c.in-Some.token c.requires.sound (sym c.in-Some.ensures))

pub returns-in-Some-clause-changes : goal.returns-in-Some-clause-changes
returns-in-Some-clause-changes c =
    let running = ap (λ (h : Held). h.stop) c.keep.ensures ∙ c.requires.running in
    kept_some c.args.engine.now c.keep.new.self c.back.new.self c.in-Some.token c.back.result (sym c.in-Some.ensures) c.keep.ensures (c.back.ensures.back running)

pub returns-in-Some-clause-keeps : goal.returns-in-Some-clause-keeps
returns-in-Some-clause-keeps c =
    let running = ap (λ (h : Held). h.stop) c.keep.ensures ∙ c.requires.running in
    on_ok_weaker c.back.result (kept_then c.args.engine.now c.keep.new.self c.back.new.self (gone_kept c.args.engine.now c.keep.new.self c.requires.sound c.keep.ensures)) (c.back.ensures.keeps running)

pub returns-in-Some-clause-advances : goal.returns-in-Some-clause-advances
returns-in-Some-clause-advances c =
    let running = ap (λ (h : Held). h.stop) c.keep.ensures ∙ c.requires.running in
    progress_then c.args.engine.now c.keep.new.self c.back.new.self (advances_set c.args.engine.now c.keep.new.self None c.keep.ensures)
    (advances_put c.keep.new.self c.back.new.self (back (token_at c.keep.new.self.names c.in-Some.token) false) c.back.result (c.back.ensures.back running) (c.back.ensures.rest running))

pub returns-in-Some-clause-files : goal.returns-in-Some-clause-files
returns-in-Some-clause-files c = files_then (files_set c.args.engine.now c.keep.new.self None c.keep.ensures) c.back.ensures.files

pub returns-in-Some-clause-puts : goal.returns-in-Some-clause-puts
returns-in-Some-clause-puts c =
    let running = ap (λ (h : Held). h.stop) c.keep.ensures ∙ c.requires.running in
    on_ok_weaker c.back.result (puts_kept c.args.engine.now c.keep.new.self c.back.new.self c.in-Some.token (sym c.in-Some.ensures) c.keep.ensures) (c.back.ensures.puts running)
