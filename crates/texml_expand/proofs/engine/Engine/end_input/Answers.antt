use Rattle.std.proofs.Common.{◌≡◌, [], ap, subst, sym}
use Rattle.texml_base.specs.Outside.{Shelf}
use Rattle.texml_expand.specs.State.{Done, nothing}
use Rattle.texml_expand.specs.Calls.{Puts}
use Rattle.texml_expand.specs.Include.{end_input}
use Rattle.texml_expand.specs.Held.{Held, state_of, Sound}
use Rattle.texml_expand.specs.contracts.engine.Engine.{the_view}
use Rattle.texml_expand.proofs.Apart.{state_ended, kept_ended, puts_ended, files_ended}
use Rattle.texml_expand.proofs.engine.Engine.end_input.Goals as goal

pub returns-clause-ends : goal.returns-clause-ends
returns-clause-ends c =
    let h = the_view c.self.inside in
    let P : Held → Type 0 = λ k. (shelf : Shelf) → end_input (state_of shelf k) ≡ Done (Puts []) (state_of shelf (record h { input = c.end_file.new.self })) nothing in
    rw c.new.ensures (subst P c.self.view_is (rw c.end_file.ensures.ends (λ shelf. ap (λ s. Done (Puts []) s nothing) (state_ended h shelf))))

pub returns-clause-files : goal.returns-clause-files
returns-clause-files c = rw c.end_file.ensures.ends (rw (← c.self.view_is) (files_ended (the_view c.self.inside)))

pub returns-clause-keeps : goal.returns-clause-keeps
returns-clause-keeps c =
    let sound = subst Sound (sym c.self.view_is) c.requires.sound in
    rw c.end_file.ensures.ends (rw (← c.self.view_is) (kept_ended (the_view c.self.inside) sound))

pub returns-clause-puts : goal.returns-clause-puts
returns-clause-puts c = rw c.end_file.ensures.ends (rw (← c.self.view_is) (puts_ended (the_view c.self.inside)))
