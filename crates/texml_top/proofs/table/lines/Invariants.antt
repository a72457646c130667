use Rattle.std.proofs.Common.{◌≡◌, map, take}
use Rattle.texml_top.specs.Table.{line_of}
use Rattle.texml_top.proofs.table.lines.Given as goal

abbrev pub invariant-loop-row : goal.invariant-loop-row
invariant-loop-row l = l.lines ≡ map line_of (take l.row-index l.rows)
