use Rattle.std.proofs.Common.{sym}
use Rattle.texml_model.proofs.Models.{flags_is, no_flags}
use Rattle.texml_model.proofs.content.Content.flags.Goals as goal

pub returns-in-None-clause-value : goal.returns-in-None-clause-value
returns-in-None-clause-value c = no_flags c.args.self.now c.args.elem.0 (sym c.in-None.ensures.line)

pub returns-in-Some-clause-value : goal.returns-in-Some-clause-value
returns-in-Some-clause-value c = flags_is c.args.self.now c.args.elem.0 c.in-Some.line.now (sym c.in-Some.ensures.line)
