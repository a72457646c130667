use Rattle.std.proofs.Common.{◌≡◌, ◌++◌, take}
use Rattle.texml_expand.proofs.gathering.Gathered.extend.Given as goal

abbrev pub invariant-loop-token : goal.invariant-loop-token
invariant-loop-token l = l.self ≡ l.initial.self ++ take l.token-index l.list
