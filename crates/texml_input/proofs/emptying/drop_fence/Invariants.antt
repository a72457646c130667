use Rattle.std.proofs.Common.{◌≡◌}
use Rattle.texml_input.specs.Inside.{sources_of}
use Rattle.texml_input.proofs.emptying.drop_fence.Given as goal

abbrev pub invariant-loop-frame : goal.invariant-loop-frame
invariant-loop-frame l = sources_of l.frames.items ≡ sources_of l.initial.frames.items

abbrev pub decreases-loop-frame : goal.decreases-loop-frame
decreases-loop-frame l = goal.left-loop-frame l
