use Rattle.texml_fixed.specs.Arithmetic.{IsWithin}
use Rattle.texml_scan.specs.Number.{number}
use Rattle.texml_scan.proofs.Bounds.{number_gives}
use Rattle.texml_expand.proofs.Within.{ok_within}
use Rattle.texml_expand.proofs.engine.Engine.read_int.Goals as goal

pub returns-clause-within : goal.returns-clause-within
returns-clause-within g c = λ running. ok_within IsWithin number number_gives c.int.result c.int.ensures.gives
