use Rattle.std.proofs.Common.{◌≡◌, map, take}
use Rattle.texml_model.specs.Levels.{rows_of}
use Rattle.texml_model.specs.Prepared.{attr_row}
use Rattle.texml_model.proofs.places.attr_numbers.Given as goal

abbrev pub invariant-loop-line : goal.invariant-loop-line
invariant-loop-line l = rows_of l.rows.items ≡ map (attr_row l.attributes) (take l.line-index l.lines)
