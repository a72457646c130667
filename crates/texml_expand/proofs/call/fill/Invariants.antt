use Rattle.std.proofs.Common.{◌≡◌, ◌++◌, length}
use Rattle.texml_input.specs.Put.{put_code}
use Rattle.texml_expand.proofs.call.fill.Given as goal

abbrev pub invariant-loop-rest : goal.invariant-loop-rest
invariant-loop-rest l = l.list ++ put_code l.args l.rest ≡ put_code l.args l.body

abbrev pub decreases-loop-rest : goal.decreases-loop-rest
decreases-loop-rest l = length l.rest
