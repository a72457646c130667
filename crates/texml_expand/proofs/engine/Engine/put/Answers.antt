use Rattle.std.proofs.Common.{length, subst, sym}
use Rattle.texml_token.specs.Numbers.{TokensWithin}
use Rattle.texml_expand.specs.Held.{Held, Sound}
use Rattle.texml_expand.specs.contracts.engine.Engine.{the_view}
use Rattle.texml_expand.proofs.Putting.{state_put, kept_put, puts_put, files_put}
use Rattle.texml_expand.proofs.engine.Engine.put.Goals as goal

pub returns-in-Ok-clause-put : goal.returns-in-Ok-clause-put
returns-in-Ok-clause-put c = λ running.
    rw c.in-Ok.ensures.ok (rw (← c.self.view_is) (state_put (the_view c.self.inside) c.args.list.now))

pub returns-in-Ok-clause-keeps : goal.returns-in-Ok-clause-keeps
returns-in-Ok-clause-keeps c = λ running.
    let sound = subst Sound (sym c.self.view_is) (c.requires.sound running) in
    let within = subst (λ (h : Held). TokensWithin (length h.names) c.args.list.now) (sym c.self.view_is) (c.requires.tokens running) in
    rw c.in-Ok.ensures.ok (rw (← c.self.view_is) (kept_put (the_view c.self.inside) c.args.list.now sound within))

pub returns-in-Ok-clause-puts : goal.returns-in-Ok-clause-puts
returns-in-Ok-clause-puts c = λ running. rw c.in-Ok.ensures.ok (rw (← c.self.view_is) (puts_put (the_view c.self.inside) c.args.list.now))

pub returns-in-Ok-clause-files : goal.returns-in-Ok-clause-files
returns-in-Ok-clause-files c = rw c.in-Ok.ensures.ok (rw (← c.self.view_is) (files_put (the_view c.self.inside) c.args.list.now))
