use Rattle.std.proofs.Common.{◌≡◌, ◌++◌, length}
use Rattle.texml_match.specs.Shape.{delimiters}
use Rattle.texml_match.proofs.shape.delimiters.Given as goal

abbrev pub decreases-loop-behind : goal.decreases-loop-behind
decreases-loop-behind l = length l.rest

abbrev pub invariant-loop-behind : goal.invariant-loop-behind
invariant-loop-behind l = l.lists.items ++ delimiters l.rest ≡ delimiters l.pieces
