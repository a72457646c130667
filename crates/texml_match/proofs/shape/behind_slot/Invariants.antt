use Rattle.std.proofs.Common.{◌≡◌, ◌≤◌, length}
use Rattle.texml_match.specs.Shape.{delimiters}
use Rattle.texml_match.proofs.shape.behind_slot.Given as goal

abbrev pub decreases-loop-rest : goal.decreases-loop-rest
decreases-loop-rest l = length l.rest

abbrev pub invariant-loop-rest : goal.invariant-loop-rest
invariant-loop-rest l = (delimiters l.rest ≡ delimiters l.pieces) × (length l.rest ≤ length l.pieces)
