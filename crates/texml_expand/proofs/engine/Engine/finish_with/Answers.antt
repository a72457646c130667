use Rattle.std.proofs.Common.{[], subst}
use Rattle.texml_token.specs.Numbers.{token_at, tokens_at}
use Rattle.texml_expand.specs.Expand.{record_of}
use Rattle.texml_expand.specs.State.{State, tell}
use Rattle.texml_expand.specs.Held.{state_of}
use Rattle.texml_expand.specs.Hearing.{hears, hears_part, Meets}
use Rattle.texml_expand.specs.contracts.engine.Engine.{the_view}
use Rattle.texml_expand.proofs.Putting.{state_finished, files_finished}
use Rattle.texml_expand.proofs.Meeting.{part_untold}
use Rattle.texml_expand.proofs.engine.Engine.finish_with.Goals as goal

pub returns-in-Err-clause-finishes : goal.returns-in-Err-clause-finishes
returns-in-Err-clause-finishes g c = rw c.no_memory.ensures.is (λ shelf. part_untold (hears g.T.Teller.wanting g.T.Teller.heard) (hears_part g.T.Teller.wanting g.T.Teller.part) _ c.args.tell.now)

pub returns-in-Ok-clause-finishes : goal.returns-in-Ok-clause-finishes
returns-in-Ok-clause-finishes g c =
    let h = the_view c.self.inside in
    let told = rw c.new-no_file.ensures at rw c.in-Ok.ensures.ok at c.tell_of.ensures.told in
    rw (← c.self.view_is)
    (λ shelf.
    let P : State → Type 0 = λ s. Meets (hears g.T.Teller.wanting g.T.Teller.heard) (hears_part g.T.Teller.wanting g.T.Teller.part)
    (tell (record_of (token_at h.names c.args.token) (tokens_at h.names c.args.told.now) []) s) c.tell_of.result (state_of shelf c.tell_of.new.self) c.args.tell.now c.tell_of.new.tell in
    subst P (state_finished h c.args.back.now shelf) (told shelf))

pub returns-in-Ok-clause-files : goal.returns-in-Ok-clause-files
returns-in-Ok-clause-files g c =
    let same = rw c.in-Ok.ensures.ok at c.tell_of.ensures.files in
    rw (← c.self.view_is) (files_finished (the_view c.self.inside) c.tell_of.new.self c.args.back.now same)
