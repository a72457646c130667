use Rattle.std.proofs.Common.{◌≡◌, false, take}
use Rattle.texml_build.proofs.building.build.Given as goal

abbrev pub invariant-loop-op : goal.invariant-loop-op
invariant-loop-op l = l.tree ≡ record { table = l.fn.content; ops = take l.op-index l.fn.ops; stopped = false }
