use Rattle.std.proofs.Common.{refl, sym, subst, map, Ok, [], ◌∙◌}
use Rattle.texml_token.specs.Numbers.{token_at, tokens_at}
use Rattle.texml_input.specs.Put.{put_code}
use Rattle.texml_input.specs.Rest.{Tok}
use Rattle.texml_expand.specs.State.{State, tell}
use Rattle.texml_expand.specs.Expand.{finished, record_of}
use Rattle.texml_expand.specs.Held.{state_of}
use Rattle.texml_expand.specs.Hearing.{hears, hears_part, Meets}
use Rattle.texml_expand.specs.contracts.engine.Engine.{the_view}
use Rattle.texml_expand.proofs.Putting.{state_finished, files_finished}
use Rattle.texml_expand.proofs.Meeting.{meets_told, part_untold, hears_not}
use Rattle.texml_expand.proofs.engine.Engine.finish_filled.Goals as goal

pub returns-in-Ok-push_body-clause-finishes : goal.returns-in-Ok-push_body-clause-finishes
returns-in-Ok-push_body-clause-finishes g c =
    let T = g.T.Teller in
    let h = the_view c.self-2.inside in
    let list = put_code c.args.args.items c.args.body.now in
    let news = record_of (token_at h.names c.args.token) (tokens_at h.names list) [] in
    rw (c.in-Ok-push_body.ensures.ok, ← c.self-2.view_is)
    (λ shelf.
    let after = finished (map Tok (tokens_at h.names list)) (state_of shelf h) in
    let P : State → Type 0 = λ s. Meets (hears T.wanting T.heard) (hears_part T.wanting T.part) (tell news after) (Ok tt) s c.args.tell.now c.args.tell.now in
    subst P (sym (state_finished h list shelf))
    (meets_told (hears T.wanting T.heard) (hears_part T.wanting T.part) news after c.args.tell.now c.args.tell.now (hears_not T.wanting T.heard news c.args.tell.now (sym c.wants.ensures ∙ c.if-wants.false))))

pub returns-in-Ok-push_body-clause-files : goal.returns-in-Ok-push_body-clause-files
returns-in-Ok-push_body-clause-files g c =
    rw (c.in-Ok-push_body.ensures.ok, ← c.self-2.view_is) (files_finished (the_view c.self-2.inside) _ (put_code c.args.args.items c.args.body.now) (record { ids = refl; readers = refl }))

pub returns-in-Err-clause-finishes : goal.returns-in-Err-clause-finishes
returns-in-Err-clause-finishes g c = rw c.no_memory.ensures.is (λ shelf. part_untold (hears g.T.Teller.wanting g.T.Teller.heard) (hears_part g.T.Teller.wanting g.T.Teller.part) _ c.args.tell.now)

pub returns-in-Err-push_body-clause-finishes : goal.returns-in-Err-push_body-clause-finishes
returns-in-Err-push_body-clause-finishes g c = rw c.no_memory-in-Err-push_body.ensures.is (λ shelf. part_untold (hears g.T.Teller.wanting g.T.Teller.heard) (hears_part g.T.Teller.wanting g.T.Teller.part) _ c.args.tell.now)
