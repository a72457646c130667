use Rattle.std.proofs.Common.{length, subst, sym}
use Rattle.texml_token.specs.Numbers.{TokenWithin}
use Rattle.texml_expand.specs.Held.{Held, Sound}
use Rattle.texml_expand.specs.contracts.engine.Engine.{the_view}
use Rattle.texml_expand.proofs.Putting.{state_back, kept_back, puts_back, files_back}
use Rattle.texml_expand.proofs.engine.Engine.back.Goals as goal

pub returns-in-Ok-clause-back : goal.returns-in-Ok-clause-back
returns-in-Ok-clause-back c = λ running.
    rw c.in-Ok.ensures.ok (rw (← c.self.view_is) (state_back (the_view c.self.inside) c.args.token c.args.frozen))

pub returns-in-Ok-clause-keeps : goal.returns-in-Ok-clause-keeps
returns-in-Ok-clause-keeps c = λ running.
    let sound = subst Sound (sym c.self.view_is) (c.requires.sound running) in
    let within = subst (λ (h : Held). TokenWithin (length h.names) c.args.token) (sym c.self.view_is) (c.requires.token running) in
    rw c.in-Ok.ensures.ok (rw (← c.self.view_is) (kept_back (the_view c.self.inside) c.args.token c.args.frozen sound within))

pub returns-in-Ok-clause-puts : goal.returns-in-Ok-clause-puts
returns-in-Ok-clause-puts c = λ running. rw c.in-Ok.ensures.ok (rw (← c.self.view_is) (puts_back (the_view c.self.inside) c.args.token c.args.frozen))

pub returns-in-Ok-clause-files : goal.returns-in-Ok-clause-files
returns-in-Ok-clause-files c = rw c.in-Ok.ensures.ok (rw (← c.self.view_is) (files_back (the_view c.self.inside) c.args.token c.args.frozen))
