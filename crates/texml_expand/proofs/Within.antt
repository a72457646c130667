-- What is read of tokens is what a grammar gives, so it lies within what the grammar gives.
use Rattle.std.proofs.Common.{subst, Result, Ok, Err}
use Rattle.std.specs.Result.{IfOk}
use Rattle.texml_scan.specs.Grammar.{Read, Wants, Gives, Fails, Text, Verdict, Wanting, Decided, Faulty, verdict}
use Rattle.texml_scan.proofs.Bounds.{OnGiven, Giving}
use Rattle.texml_expand.specs.Scanning.{MayGive}
use Rattle.texml_expand.specs.declared.stop.Stop.{Stop}

module _ {V : Type 0} (P : V → Type 0) where
  -- a value that was decided on
  abbrev OnDecided : Verdict V → Type 0
  OnDecided (Wanting w) = Unit {0}
  OnDecided (Decided v n) = P v
  OnDecided (Faulty f) = Unit {0}

  by_verdict : (r : Read V) → OnGiven P r → OnDecided (verdict r)
  by_verdict (Wants w) h = tt
  by_verdict (Gives v left) h = h
  by_verdict (Fails f) h = tt

  pub gives_within : (text : Text V) → Giving P text → (v : V) → MayGive (λ xs. verdict (text xs)) v → P v
  gives_within text within v m = subst OnDecided m.is (by_verdict (text m.looks) (within m.looks))

  pub ok_within : (text : Text V) → Giving P text → (r : Result V Stop) → IfOk r (MayGive (λ xs. verdict (text xs))) → IfOk r P
  ok_within text within (Ok v) m = gives_within text within v m
  ok_within text within (Err e) m = tt
