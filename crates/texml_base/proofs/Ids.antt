-- Laws of ids in use.
use Rattle.std.proofs.Common.{◌≡◌, ◌≢◌, ℕ, zero, suc, ◌<◌, ◌≤◌, List, [], ◌∷◌, length, true, if◌then◌else◌, ◌==◌, Some, refl, sym, ap, arith, set, inl, inr, ◌∙◌, get_or}
use Rattle.std.proofs.lemmas.Bool.{eq-eqb, ne_eqb, cases_eq}
use Rattle.std.specs.List.{remove}
use Rattle.texml_base.specs.declared.opened.Opened.{Opened}
use Rattle.texml_base.specs.Outside.{in_use, without}
use Rattle.texml_base.specs.Opened.{ids_of, held}
use Rattle.texml_base.specs.Place.{place}

pub length-without : (id : ℕ) (xs : List ℕ) → in_use xs id ≡ true → length xs ≡ suc (length (without id xs))
length-without id [] h = cc
length-without id (x ∷ xs) h =
    elim (cases_eq x id) [
      | inl e ↦ rw (eq-eqb x id e) refl
      | inr ne ↦ let h2 : in_use xs id ≡ true = rw (ne_eqb x id ne) at h in rw (ne_eqb x id ne) (ap suc (length-without id xs h2))
    ]

pub in_use-without : (id k : ℕ) (xs : List ℕ) → k ≢ id → in_use (without id xs) k ≡ in_use xs k
in_use-without id k [] ne = refl
in_use-without id k (x ∷ xs) ne =
    elim (cases_eq x id) [
      | inl e ↦ let other : x ≢ k = λ d. ne (sym d ∙ e) in rw (eq-eqb x id e, ne_eqb x k other) refl
      | inr apart ↦ rw (ne_eqb x id apart) (ap (λ b. if x == k then true else b) (in_use-without id k xs ne))
    ]

-- n ids in use are n at least
pub ids_below : (n : ℕ) (xs : List ℕ) → ((k : ℕ) → k < n → in_use xs k ≡ true) → n ≤ length xs
ids_below zero xs h = omega arith
ids_below (suc n) xs h =
    let rest : n ≤ length (without n xs) = ids_below n (without n xs)
    (λ k lt. in_use-without n k xs (omega arith) ∙ h k (omega arith)) in
    omega (arith, length-without n xs (h n (omega arith)))

pub held-place : {T : Type 0} (id : ℕ) (os : List (Opened T)) (d : Opened T) → in_use (ids_of os) id ≡ true
    → (held os id ≡ Some (get_or os (place id os) d).file) × ((get_or os (place id os) d).id ≡ id)
held-place id [] d h = cc
held-place id (o ∷ os) d h =
    elim (cases_eq o.id id) [
      | inl e ↦ rw (eq-eqb o.id id e) (refl, e)
      | inr ne ↦ let h2 : in_use (ids_of os) id ≡ true = rw (ne_eqb o.id id ne) at h in rw (ne_eqb o.id id ne) (held-place id os d h2)
    ]

pub ids_of-set : {T : Type 0} (id : ℕ) (os : List (Opened T)) (o : Opened T) → o.id ≡ id → in_use (ids_of os) id ≡ true
    → ids_of (set os (place id os) o) ≡ ids_of os
ids_of-set id [] o same h = cc
ids_of-set id (p ∷ os) o same h =
    elim (cases_eq p.id id) [
      | inl e ↦ rw (eq-eqb p.id id e) (ap (λ x. x ∷ ids_of os) (same ∙ sym e))
      | inr ne ↦ let h2 : in_use (ids_of os) id ≡ true = rw (ne_eqb p.id id ne) at h in
          rw (ne_eqb p.id id ne) (ap (λ xs. p.id ∷ xs) (ids_of-set id os o same h2))
    ]

pub held-set_same : {T : Type 0} (id : ℕ) (os : List (Opened T)) (o : Opened T) → o.id ≡ id → in_use (ids_of os) id ≡ true
    → held (set os (place id os) o) id ≡ Some o.file
held-set_same id [] o same h = cc
held-set_same id (p ∷ os) o same h =
    elim (cases_eq p.id id) [
      | inl e ↦ rw (eq-eqb p.id id e) (rw (eq-eqb o.id id same) refl)
      | inr ne ↦ let h2 : in_use (ids_of os) id ≡ true = rw (ne_eqb p.id id ne) at h in
          rw (ne_eqb p.id id ne) (rw (ne_eqb p.id id ne) (held-set_same id os o same h2))
    ]

pub held-set_other : {T : Type 0} (id k : ℕ) (os : List (Opened T)) (o : Opened T) → o.id ≡ id → k ≢ id → in_use (ids_of os) id ≡ true
    → held (set os (place id os) o) k ≡ held os k
held-set_other id k [] o same ne h = cc
held-set_other id k (p ∷ os) o same ne h =
    elim (cases_eq p.id id) [
      | inl e ↦ let other : p.id ≢ k = λ d. ne (sym d ∙ e) in let other2 : o.id ≢ k = λ d. ne (sym d ∙ same) in
          rw (eq-eqb p.id id e) (rw (ne_eqb o.id k other2, ne_eqb p.id k other) refl)
      | inr apart ↦ let h2 : in_use (ids_of os) id ≡ true = rw (ne_eqb p.id id apart) at h in
          rw (ne_eqb p.id id apart) (ap (λ f. if p.id == k then Some p.file else f) (held-set_other id k os o same ne h2))
    ]

pub ids_of-remove : {T : Type 0} (id : ℕ) (os : List (Opened T)) → in_use (ids_of os) id ≡ true
    → ids_of (remove os (place id os)) ≡ without id (ids_of os)
ids_of-remove id [] h = cc
ids_of-remove id (p ∷ os) h =
    elim (cases_eq p.id id) [
      | inl e ↦ rw (eq-eqb p.id id e) refl
      | inr ne ↦ let h2 : in_use (ids_of os) id ≡ true = rw (ne_eqb p.id id ne) at h in
          rw (ne_eqb p.id id ne) (ap (λ xs. p.id ∷ xs) (ids_of-remove id os h2))
    ]

pub held-remove : {T : Type 0} (id k : ℕ) (os : List (Opened T)) → k ≢ id → in_use (ids_of os) id ≡ true
    → held (remove os (place id os)) k ≡ held os k
held-remove id k [] ne h = cc
held-remove id k (p ∷ os) ne h =
    elim (cases_eq p.id id) [
      | inl e ↦ let other : p.id ≢ k = λ d. ne (sym d ∙ e) in rw (eq-eqb p.id id e) (rw (ne_eqb p.id k other) refl)
      | inr apart ↦ let h2 : in_use (ids_of os) id ≡ true = rw (ne_eqb p.id id apart) at h in
          rw (ne_eqb p.id id apart) (ap (λ f. if p.id == k then Some p.file else f) (held-remove id k os ne h2))
    ]

-- what stands at the place that was found for an id is of that id, and is what it holds
pub found_at : {T : Type 0} (id at : ℕ) (os : List (Opened T)) (o : Opened T) → in_use (ids_of os) id ≡ true → at ≡ place id os → o ≡ get_or os at o
    → (held os id ≡ Some o.file) × (o.id ≡ id)
found_at id at os o used found is =
    let was : o ≡ get_or os (place id os) o = rw found at is in
    let first = held-place id os o used in
    (first.0 ∙ ap (λ x. Some x.file) (sym was), ap (λ x. x.id) was ∙ first.1)

-- one file was changed in its place
pub record IsPutBack {T : Type 0} (id : ℕ) (old new : List (Opened T)) (file : T) : Type 0 where
  pub ids : ids_of new ≡ ids_of old
  pub same : held new id ≡ Some file
  pub others : (k : ℕ) → k ≢ id → held new k ≡ held old k

pub put_back : {T : Type 0} (id at : ℕ) (os : List (Opened T)) (o : Opened T) → in_use (ids_of os) id ≡ true → at ≡ place id os → o.id ≡ id
    → IsPutBack id os (set os at o) o.file
put_back id at os o used found same =
    let wrote : set os at o ≡ set os (place id os) o = ap (λ p. set os p o) found in record {
      ids = ap ids_of wrote ∙ ids_of-set id os o same used;
      same = ap (λ l. held l id) wrote ∙ held-set_same id os o same used;
      others = λ k ne. ap (λ l. held l k) wrote ∙ held-set_other id k os o same ne used;
    }

-- one file was taken out
pub record IsTakenOut {T : Type 0} (id : ℕ) (old new : List (Opened T)) : Type 0 where
  pub ids : ids_of new ≡ without id (ids_of old)
  pub others : (k : ℕ) → k ≢ id → held new k ≡ held old k

pub taken_out : {T : Type 0} (id at : ℕ) (os new : List (Opened T)) → in_use (ids_of os) id ≡ true → at ≡ place id os → new ≡ remove os at
    → IsTakenOut id os new
taken_out id at os new used found is =
    let gone : new ≡ remove os (place id os) = is ∙ ap (remove os) found in record {
      ids = ap ids_of gone ∙ ids_of-remove id os used;
      others = λ k ne. ap (λ l. held l k) gone ∙ held-remove id k os ne used;
    }
