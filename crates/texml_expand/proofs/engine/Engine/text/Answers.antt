use Rattle.std.proofs.Common.{ap, sym}
use Rattle.texml_expand.specs.State.{Done, nothing}
use Rattle.texml_expand.specs.Held.{state_of}
use Rattle.texml_expand.proofs.engine.Engine.text.Goals as goal

pub returns-in-Ok-clause-reads : goal.returns-in-Ok-clause-reads
returns-in-Ok-clause-reads c = λ shelf. ap (λ bs. Done bs (state_of shelf c.args.self.now) nothing) (sym (c.in-Ok.ensures c.args.self.now.names))
