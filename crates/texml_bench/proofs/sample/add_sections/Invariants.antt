use Rattle.std.proofs.Common.{◌≡◌}
use Rattle.texml_bench.proofs.sample.add_sections.Given as goal

abbrev pub invariant-loop-at : goal.invariant-loop-at
invariant-loop-at l = l.tree.table ≡ l.fn.tree.table
