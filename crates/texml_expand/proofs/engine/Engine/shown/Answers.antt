use Rattle.std.proofs.Common.{length}
use Rattle.texml_expand.proofs.engine.Engine.shown.Goals as goal

pub returns-in-Ok-clause-within : goal.returns-in-Ok-clause-within
returns-in-Ok-clause-within c = c.in-Ok.ensures.within (length c.args.self.now.names) c.requires.internal
