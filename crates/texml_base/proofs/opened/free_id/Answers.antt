use Rattle.std.proofs.Common.{arith}
use Rattle.texml_base.proofs.Ids.{ids_below}
use Rattle.texml_base.proofs.opened.free_id.Goals as goal

pub unreachable-requires : goal.unreachable-requires
unreachable-requires g c = omega (arith, ids_below c.loop-id.id _ c.loop-id.invariant)
