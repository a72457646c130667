use Rattle.std.proofs.Common.{ap, ◌∙◌}
use Rattle.texml_assign.specs.Fillers.{fills}
use Rattle.texml_assign.proofs.fillers.may_fill.Goals as goal

pub returns : goal.returns
returns c = c.fills.ensures c.args.engine.now.names ∙ ap (fills c.args.filler) c.in_ok-meaning.ensures.means
