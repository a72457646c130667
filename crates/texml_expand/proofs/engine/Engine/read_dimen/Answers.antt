use Rattle.texml_scan.specs.Measure.{dimension}
use Rattle.texml_scan.proofs.Bounds.{IsScaledWithin, dimension_gives}
use Rattle.texml_expand.proofs.Within.{ok_within}
use Rattle.texml_expand.proofs.engine.Engine.read_dimen.Goals as goal

pub returns-clause-within : goal.returns-clause-within
returns-clause-within g c = λ running. ok_within IsScaledWithin dimension dimension_gives c.dimension.result c.dimension.ensures.gives
