use Rattle.std.proofs.Common.{◌≡◌, take}
use Rattle.std.specs.List.{All}
use Rattle.std.specs.Char.{IsScalar}
use Rattle.texml_text.proofs.lines.codes_of.Given as goal

abbrev pub invariant-loop-c : goal.invariant-loop-c
invariant-loop-c l = record {
  codes : l.codes.items ≡ take l.c-index l.text;
  scalars : All IsScalar l.codes.items;
}
