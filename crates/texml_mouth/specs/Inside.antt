-- How a mouth keeps the characters left, which only the proofs of its own functions need.
use Rattle.std.specs.Prelude.{◌≤◌, ℕ, List, ◌++◌, length, drop, Option, IfSome}
use Rattle.std.specs.Option.{option_to_list}
use Rattle.std.specs.List.{All}
use Rattle.std.specs.Char.{IsScalar}
use Rattle.texml_mouth.specs.declared.MouthFault.{MouthFault}
use Rattle.texml_mouth.specs.Seen.{IsFault}

-- the characters left: perhaps one that was settled, and those of the line from a place on
abbrev pub left : Option ℕ → List ℕ → ℕ → List ℕ
left front line place = option_to_list front ++ drop place line

-- the place is in the line, and there are characters alone
pub record IsSound (front : Option ℕ) (line : List ℕ) (place : ℕ) (fault : Option MouthFault) : Type 0 where
  pub within : place ≤ length line
  pub settled : IfSome front IsScalar
  pub scalars : All IsScalar line
  pub kept : IfSome fault IsFault
