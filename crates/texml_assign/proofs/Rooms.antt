-- How many tokens are kept for after groups, when groups change.
use Rattle.std.proofs.Common.{◌≡◌, ◌≤◌, ◌+◌, ℕ, Bool, true, false, if◌then◌else◌, List, [], ◌∷◌, ◌++◌, map, length, length-append, Result, Ok, Err, sym, subst, arith}
use Rattle.std.specs.List.{sum_by}
use Rattle.std.specs.Result.{IfOk}
use Rattle.std.proofs.lemmas.List.Sums.{sum_by-cons}
use Rattle.texml_scope.specs.declared.values.FaultOf.TheVariants.{WrongGroup}
use Rattle.texml_scope.specs.Groups.{Open, Groups, EndFault, put_below, keep_in, end_in, end_group}

abbrev pub kept_after : {K V T G : Type 0} → List (Open K V T G) → ℕ
kept_after = sum_by (λ g. length g.after)

module _ {K V T G : Type 0} where
  more : (g : Open K V T G) (gs : List (Open K V T G)) → kept_after (g ∷ gs) ≡ length g.after + kept_after gs
  more g gs = sum_by-cons (λ (o : Open K V T G). length o.after) g gs

  -- a value that is set in all of them
  pub below_room : (same : K → K → Bool) (k : K) (v : V) (gs : List (Open K V T G)) → kept_after (map (put_below same k v) gs) ≡ kept_after gs
  below_room same k v [] = omega arith
  below_room same k v (g ∷ gs) = omega (arith, below_room same k v gs, more (put_below same k v g) (map (put_below same k v) gs), more g gs)

  -- a token that is kept
  pub keep_room : (t : T) (gs : List (Open K V T G)) → kept_after (keep_in t gs) ≤ kept_after gs + 1
  keep_room t [] = omega arith
  keep_room t (g ∷ gs) =
      let kept : Open K V T G = record { kind = g.kind; after = g.after ++ t ∷ []; below = g.below } in
      omega (arith, more kept gs, more g gs, length-append g.after (t ∷ []))

  -- the end of a group
  abbrev Leaves : ℕ → Groups K V T G × Result (List T) (EndFault G) → Type 0
  Leaves n x = IfOk x.1 (λ after. kept_after x.0.groups + length after ≡ n)

  leaves_in : (same : G → G → Bool) (kind : G) (w : Groups K V T G) (gs : List (Open K V T G)) → Leaves (kept_after gs) (end_in same kind w gs)
  leaves_in same kind w [] = tt
  leaves_in same kind w (g ∷ gs) = by (same g.kind kind)
    where
      by : (b : Bool) → Leaves (kept_after (g ∷ gs)) (if b then (record { top = g.below; groups = gs }, Ok g.after) else (w, Err (WrongGroup g.kind)))
      by true = omega (arith, more g gs)
      by false = tt

  pub ended_room : (same : G → G → Bool) (kind : G) (w v : Groups K V T G) (after : List T) → (v, Ok after) ≡ end_group same kind w → kept_after v.groups + length after ≡ kept_after w.groups
  ended_room same kind w v after e = subst (Leaves (kept_after w.groups)) (sym e) (leaves_in same kind w w.groups)
