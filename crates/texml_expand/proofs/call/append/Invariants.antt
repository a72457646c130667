use Rattle.std.proofs.Common.{◌≡◌, ◌++◌, length}
use Rattle.texml_expand.proofs.call.append.Given as goal

abbrev pub invariant-loop-rest : goal.invariant-loop-rest
invariant-loop-rest l = l.list ++ l.rest ≡ l.initial.list ++ l.tokens

abbrev pub decreases-loop-rest : goal.decreases-loop-rest
decreases-loop-rest l = length l.rest
