use Rattle.std.proofs.Common.{ap, sym}
use Rattle.texml_expand.specs.State.{Done, nothing}
use Rattle.texml_expand.proofs.Apart.{state_apart, kept_apart, puts_apart}
use Rattle.texml_expand.proofs.engine.Engine.set_apart.Goals as goal

pub returns-in-Ok-clause-apart : goal.returns-in-Ok-clause-apart
returns-in-Ok-clause-apart c = rw c.in-Ok.ensures.ok (λ shelf. ap (λ s. Done tt s nothing) (sym (state_apart c.args.self.now c.args.list.now shelf)))

pub returns-in-Ok-clause-keeps : goal.returns-in-Ok-clause-keeps
returns-in-Ok-clause-keeps c = rw c.in-Ok.ensures.ok (kept_apart c.args.self.now c.args.list.now c.requires.sound c.requires.list)

pub returns-in-Ok-clause-puts : goal.returns-in-Ok-clause-puts
returns-in-Ok-clause-puts c = rw c.in-Ok.ensures.ok (puts_apart c.args.self.now c.args.list.now)
