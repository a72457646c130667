use Rattle.std.proofs.Common.{◌≡◌, ◌++◌, take}
use Rattle.std.specs.List.{All}
use Rattle.std.specs.Char.{IsScalar}
use Rattle.texml_assign.proofs.new_if.joined_name.Given as goal

abbrev pub invariant-loop-code : goal.invariant-loop-code
invariant-loop-code l = record {
  text : l.text ≡ l.first ++ take l.code-index l.last;
  scalars : All IsScalar l.text;
}
