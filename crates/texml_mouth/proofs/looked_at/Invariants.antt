use Rattle.std.proofs.Common.{◌≡◌, ◌∷◌, ◌≤◌, ◌-◌, length, drop}
use Rattle.std.specs.Char.{IsScalar}
use Rattle.texml_mouth.specs.Looked.{settled}
use Rattle.texml_mouth.proofs.looked_at.Given as goal

abbrev pub invariant-loop-group : goal.invariant-loop-group
invariant-loop-group g l = record {
  taken : l.looked.taken ≤ length l.behind;
  same : settled (g.C.Codes.cats l.codes) (l.fn.c ∷ l.behind) ≡ settled (g.C.Codes.cats l.codes) (l.looked.code ∷ drop l.looked.taken l.behind);
  scalar : IsScalar l.fn.c → IsScalar l.looked.code;
}

abbrev pub decreases-loop-group : goal.decreases-loop-group
decreases-loop-group g l = length l.behind - l.looked.taken
