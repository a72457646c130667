use Rattle.std.proofs.Common.{◌≡◌, ◌++◌, map, take}
use Rattle.texml_top.proofs.table.push_all.Given as goal

abbrev pub invariant-loop-text : goal.invariant-loop-text
invariant-loop-text l = l.all ≡ l.initial.all ++ map (λ t. t.now) (take l.text-index l.texts)
