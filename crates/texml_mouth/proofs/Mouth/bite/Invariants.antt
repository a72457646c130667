use Rattle.std.proofs.Common.{◌≡◌, ◌≤◌, length}
use Rattle.texml_mouth.specs.Mouth.{bites}
use Rattle.texml_mouth.proofs.Mouth.bite.Given as goal

abbrev pub invariant-loop-c : goal.invariant-loop-c
invariant-loop-c g l = record {
  same : bites (g.C.Codes.cats l.codes) l.initial.self.spot ≡ bites (g.C.Codes.cats l.codes) l.self.spot;
  state : l.self.spot.state ≡ l.initial.self.spot.state;
  names : l.names ≡ l.initial.names;
  fault : l.self.fault ≡ l.initial.self.fault;
  shorter : length l.self.spot.tail ≤ length l.initial.self.spot.tail;
}

abbrev pub decreases-loop-c : goal.decreases-loop-c
decreases-loop-c g l = length l.self.spot.tail
