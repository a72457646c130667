-- What one more token decides, by how many conditionals have begun and ended.
use Rattle.std.proofs.Common.{arith, ◌≡◌, ◌≢◌, ◌∙◌, ap, sym, refl, ℕ, ◌+◌, ◌-◌, ◌==◌, ◌<◌, Bool, true, false, cond, List, [], ◌∷◌, ◌++◌, map, count_by}
use Rattle.std.proofs.lemmas.Bool.{eq-eqb, ne_eqb}
use Rattle.std.proofs.lemmas.List.{append_assoc, append-nil}
use Rattle.std.proofs.lemmas.List.Sums.{fold_push}
use Rattle.texml_scope.specs.Values.{Meaning}
use Rattle.texml_cond.specs.declared.limits.Word.{Word}
use Rattle.texml_cond.specs.declared.skipping.Part.{Part}
use Rattle.texml_cond.specs.declared.skipping.Part.TheVariants.{Begins, Stops, Passes}
use Rattle.texml_cond.specs.declared.skipping.SkipStep.{SkipStep}
use Rattle.texml_cond.specs.declared.skipping.SkipStep.TheVariants.{More, Reached, TooDeep}
use Rattle.texml_cond.specs.declared.skipping.TheConstants.{DEEPEST}
use Rattle.texml_cond.specs.Skipping.{MeaningCode, part_of, is_begin, is_end, is_fi, begun, ended, decided_by, or_later, skip_behind, skip, Fed}

or_later-assoc : (a b c : SkipStep) → or_later a (or_later b c) ≡ or_later (or_later a b) c
or_later-assoc More b c = refl
or_later-assoc (Reached w) b c = refl
or_later-assoc TooDeep b c = refl

or_later-none : (a : SkipStep) → or_later a More ≡ a
or_later-none More = refl
or_later-none (Reached w) = refl
or_later-none TooDeep = refl

-- the first that decides, of a list with one more at its end
later : (seen ms : List MeaningCode) (m : MeaningCode) → skip_behind seen (ms ++ m ∷ []) ≡ or_later (skip_behind seen ms) (decided_by (seen ++ ms) (part_of m))
later seen [] m = or_later-none (decided_by seen (part_of m)) ∙ ap (λ s. decided_by s (part_of m)) (sym (append-nil seen))
later seen (k ∷ ms) m =
    ap (or_later (decided_by seen (part_of k))) (later (seen ++ k ∷ []) ms m ∙ ap (λ s. or_later (skip_behind (seen ++ k ∷ []) ms) (decided_by s (part_of m))) (append_assoc seen (k ∷ []) ms))
    ∙ or_later-assoc (decided_by seen (part_of k)) (skip_behind (seen ++ k ∷ []) ms) (decided_by (seen ++ k ∷ ms) (part_of m))

counted : (p : MeaningCode → Bool) (seen : List MeaningCode) (m : MeaningCode) → count_by p (seen ++ m ∷ []) ≡ count_by p seen + cond (p m) 1 0
counted p seen m = fold_push (λ a x. a + cond (p x) 1 0) 0 seen m

module _ (seen : List MeaningCode) (n : ℕ) (fed : Fed seen n) (m : MeaningCode) where
  -- one more token decides by its part alone
  decides : skip (seen ++ m ∷ []) ≡ decided_by seen (part_of m)
  decides = later [] seen m ∙ ap (λ s. or_later s (decided_by seen (part_of m))) fed.undecided

  by_part : (p : Part) → p ≡ part_of m → skip (seen ++ m ∷ []) ≡ decided_by seen p
  by_part p is = decides ∙ ap (decided_by seen) (sym is)

  begun_now : (p : Part) → p ≡ part_of m → begun (seen ++ m ∷ []) ≡ begun seen + cond (is_begin p) 1 0
  begun_now p is = counted (λ m. is_begin (part_of m)) seen m ∙ ap (λ p. begun seen + cond (is_begin p) 1 0) (sym is)

  ended_now : (p : Part) → p ≡ part_of m → ended (seen ++ m ∷ []) ≡ ended seen + cond (is_end p) 1 0
  ended_now p is = counted (λ m. is_end (part_of m)) seen m ∙ ap (λ p. ended seen + cond (is_end p) 1 0) (sym is)

  pub begins-deep : Begins ≡ part_of m → n ≡ DEEPEST - 1 → TooDeep ≡ skip (seen ++ m ∷ [])
  begins-deep is deep =
      sym (by_part Begins is ∙ ap (λ (b : Bool). cond b TooDeep More) (let same : begun seen + 1 ≡ ended seen + DEEPEST = omega (arith, fed.count, deep) in eq-eqb (begun seen + 1) (ended seen + DEEPEST) same))

  pub begins-more : Begins ≡ part_of m → n ≢ DEEPEST - 1 → More ≡ skip (seen ++ m ∷ [])
  begins-more is not =
      sym (by_part Begins is ∙ ap (λ (b : Bool). cond b TooDeep More) (ne_eqb (begun seen + 1) (ended seen + DEEPEST) (λ same. not (omega (arith, fed.count, same)))))

  pub begins-fed : Begins ≡ part_of m → n ≢ DEEPEST - 1 → Fed (seen ++ m ∷ []) (n + 1)
  begins-fed is not = record { undecided = sym (begins-more is not); count = let a = begun_now Begins is in let b = ended_now Begins is in omega (arith, fed.count, a, b) }

  pub stops-reached : (w : Word) → Stops w ≡ part_of m → n ≡ 0 → Reached w ≡ skip (seen ++ m ∷ [])
  stops-reached w is level = sym (by_part (Stops w) is ∙ ap (λ (b : Bool). cond b (Reached w) More) (let same : begun seen ≡ ended seen = omega (arith, fed.count, level) in eq-eqb (begun seen) (ended seen) same))

  pub stops-more : (w : Word) → Stops w ≡ part_of m → n ≢ 0 → More ≡ skip (seen ++ m ∷ [])
  stops-more w is inside = sym (by_part (Stops w) is ∙ ap (λ (b : Bool). cond b (Reached w) More) (ne_eqb (begun seen) (ended seen) (λ same. inside (omega (arith, fed.count, same)))))

  pub fi-fed : (w : Word) → Stops w ≡ part_of m → n ≢ 0 → is_fi w ≡ true → Fed (seen ++ m ∷ []) (n - 1)
  fi-fed w is inside fi = record {
    undecided = sym (stops-more w is inside);
    count = let a = begun_now (Stops w) is in let b = ended_now (Stops w) is ∙ ap (λ (t : Bool). ended seen + cond t 1 0) fi in omega (arith, fed.count, a, b, inside);
  }

  pub other-fed : (w : Word) → Stops w ≡ part_of m → n ≢ 0 → is_fi w ≡ false → Fed (seen ++ m ∷ []) n
  other-fed w is inside fi = record {
    undecided = sym (stops-more w is inside);
    count = let a = begun_now (Stops w) is in let b = ended_now (Stops w) is ∙ ap (λ (t : Bool). ended seen + cond t 1 0) fi in omega (arith, fed.count, a, b);
  }

  pub passes-more : Passes ≡ part_of m → More ≡ skip (seen ++ m ∷ [])
  passes-more is = sym (by_part Passes is)

  pub passes-fed : Passes ≡ part_of m → Fed (seen ++ m ∷ []) n
  passes-fed is = record { undecided = sym (passes-more is); count = let a = begun_now Passes is in let b = ended_now Passes is in omega (arith, fed.count, a, b) }
