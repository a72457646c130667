use Rattle.std.proofs.Common.{◌≡◌, ◌++◌, length}
use Rattle.texml_match.specs.Shape.{leading}
use Rattle.texml_match.proofs.shape.leading.Given as goal

abbrev pub decreases-loop-rest : goal.decreases-loop-rest
decreases-loop-rest l = length l.rest

abbrev pub invariant-loop-rest : goal.invariant-loop-rest
invariant-loop-rest l = l.list ++ leading l.rest ≡ leading l.pieces
