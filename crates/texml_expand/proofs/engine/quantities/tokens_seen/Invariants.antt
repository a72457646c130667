use Rattle.std.proofs.Common.{◌≡◌, map, take}
use Rattle.texml_expand.proofs.engine.quantities.tokens_seen.Given as goal

abbrev pub invariant-loop-x : goal.invariant-loop-x
invariant-loop-x l = l.list ≡ map (λ x. x.token) (take l.x-index l.seen)
