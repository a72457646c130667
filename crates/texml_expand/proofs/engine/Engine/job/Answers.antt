use Rattle.std.proofs.Common.{sym, ap, ◌∙◌}
use Rattle.std.specs.Str.{chars}
use Rattle.texml_expand.specs.Printed.{printed_tokens}
use Rattle.texml_expand.specs.Expansion.{job_name}
use Rattle.texml_expand.specs.State.{Done, nothing}
use Rattle.texml_expand.specs.Held.{Held, state_of}
use Rattle.texml_expand.proofs.engine.Engine.job.Goals as goal

pub returns-in-Ok-clause-writes : goal.returns-in-Ok-clause-writes
returns-in-Ok-clause-writes c = λ shelf.
    ap (λ l. Done l (state_of shelf c.args.self.now) nothing) (sym (c.in-Ok.ensures.is c.args.self.now.names ∙ ap (λ (h : Held). printed_tokens (job_name (chars h.main))) c.self.view_is))
