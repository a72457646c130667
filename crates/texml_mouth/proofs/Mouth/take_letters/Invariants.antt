use Rattle.std.proofs.Common.{◌≡◌, ◌≤◌, ◌++◌, length}
use Rattle.std.specs.List.{All}
use Rattle.std.specs.Char.{IsScalar}
use Rattle.texml_mouth.specs.Mouth.{word}
use Rattle.texml_mouth.proofs.Mouth.take_letters.Given as goal

abbrev pub invariant-loop-c : goal.invariant-loop-c
invariant-loop-c g l = record {
  letters : l.initial.text ++ (word (g.C.Codes.cats l.codes) l.initial.self.spot.tail).letters ≡ l.text ++ (word (g.C.Codes.cats l.codes) l.self.spot.tail).letters;
  behind : (word (g.C.Codes.cats l.codes) l.initial.self.spot.tail).behind ≡ (word (g.C.Codes.cats l.codes) l.self.spot.tail).behind;
  fault : l.self.fault ≡ l.initial.self.fault;
  shorter : length l.self.spot.tail ≤ length l.initial.self.spot.tail;
  scalars : All IsScalar l.text;
}

abbrev pub decreases-loop-c : goal.decreases-loop-c
decreases-loop-c g l = length l.self.spot.tail
