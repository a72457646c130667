use Rattle.std.proofs.Common.{ap, ◌∙◌}
use Rattle.texml_expand.specs.Arguments.{means_space}
use Rattle.texml_assign.proofs.operands.token_is_space.Goals as goal

pub returns : goal.returns
returns c = c.means_space.ensures c.args.engine.now.names ∙ ap means_space c.in_ok-meaning.ensures.means
