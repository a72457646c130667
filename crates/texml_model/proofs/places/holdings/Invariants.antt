use Rattle.std.proofs.Common.{◌≡◌, map, take}
use Rattle.texml_model.specs.Levels.{rows_of}
use Rattle.texml_model.specs.Prepared.{held_row}
use Rattle.texml_model.proofs.places.holdings.Given as goal

abbrev pub invariant-loop-parent : goal.invariant-loop-parent
invariant-loop-parent l = rows_of l.rows.items ≡ map (held_row l.lines) (take l.parent-index l.lines)
