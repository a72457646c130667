-- Widening level by level gives the shortest chains, and some level no longer than the table adds none: then there are no
-- others.
use Rattle.std.proofs.Common.{arith, ◌≡◌, ◌⊎◌, ◌∙◌, ap, sym, refl, subst, ℕ, zero, suc, ◌+◌, ◌-◌, ◌<◌, ◌≤◌, ◌&&◌, Bool, true, false, List, [], ◌∷◌, ◌++◌, length, map, Option, Some, None, if◌then◌else◌, inl, inr, eq-or-lt_of_le}
use Rattle.std.specs.Option.{option_map, option_or}
use Rattle.std.specs.List.{range_with_len}
use Rattle.std.proofs.lemmas.List.{length-append}
use Rattle.std.proofs.lemmas.List.FromFn.{length-map-range_with_len, get_or-map-range_with_len, map-range_with_len_more}
use Rattle.texml_model.specs.Chain.{Holding, may, first_some, behind, by_one, chain_of, shortest, chain_between}
use Rattle.texml_model.specs.Levels.{at, wider, upto, missing}

-- the shortest chain, and of the shortest the first; or there is none of any length
abbrev pub IsChain : Holding → Option ℕ → ℕ → Option (List ℕ) → Type 0
IsChain h child p None = (n : ℕ) → chain_of h child n p ≡ None
IsChain h child p (Some c) = (chain_of h child (length c) p ≡ Some c) × ((m : ℕ) → m < length c → chain_of h child m p ≡ None)

left_none : (a b : Option (List ℕ)) → option_or a b ≡ None → a ≡ None
left_none None b e = refl
left_none (Some c) b e = absurd (cc)

right_none : (a b : Option (List ℕ)) → option_or a b ≡ None → b ≡ None
right_none None b e = e
right_none (Some c) b e = absurd (cc)

first_none : (g : ℕ → Option (List ℕ)) (n k e : ℕ) → first_some g (range_with_len n k) ≡ None → n ≤ e → e < n + k → g e ≡ None
first_none g n zero e h a b = absurd (omega arith)
first_none g n (suc k) e h a b = elim (eq-or-lt_of_le a) [
  | inl q ↦ subst (λ (x : ℕ). g x ≡ None) q (left_none (g n) (first_some g (range_with_len (n + 1) k)) h)
  | inr l ↦ first_none g (n + 1) k e (right_none (g n) (first_some g (range_with_len (n + 1) k)) h) (omega arith) (omega arith)
]

first_same : (g h : ℕ → Option (List ℕ)) (n k : ℕ) → ((e : ℕ) → e < n + k → g e ≡ h e) → first_some g (range_with_len n k) ≡ first_some h (range_with_len n k)
first_same g h n zero s = refl
first_same g h n (suc k) s = (λ i. option_or (s n (omega arith) i) (first_same g h (n + 1) k (λ e l. s e (omega arith)) i))

map_none : (e : ℕ) (o : Option (List ℕ)) → option_map (λ c. e ∷ c) o ≡ None → o ≡ None
map_none e None h = refl
map_none e (Some c) h = absurd (cc)

behind_none : (b : Bool) (e : ℕ) (f : ℕ → Option (List ℕ)) → b ≡ true → behind b e f ≡ None → f e ≡ None
behind_none true e f g h = map_none e (f e) h
behind_none false e f g h = absurd (cc)

behind_same : (b : Bool) (e : ℕ) (f g : ℕ → Option (List ℕ)) → (b ≡ true → f e ≡ g e) → behind b e f ≡ behind b e g
behind_same true e f g s = ap (option_map (λ c. e ∷ c)) (s refl)
behind_same false e f g s = refl

module _ (t : Holding) (child : Option ℕ) where
  may_lead : ℕ → ℕ → Bool
  may_lead p e = t.opens e && t.holds p e

  next_none : (n p e : ℕ) → e < t.size → (t.opens e && t.holds p e) ≡ true → chain_of t child (suc n) p ≡ None → chain_of t child n e ≡ None
  next_none n p e l g h = behind_none (t.opens e && t.holds p e) e (chain_of t child n) g (first_none (λ x. behind (t.opens x && t.holds p x) x (chain_of t child n)) 0 t.size e h (omega arith) (omega arith))

  none_below : (n p e : ℕ) → e < t.size → (t.opens e && t.holds p e) ≡ true → shortest t child (suc n) p ≡ None → shortest t child n e ≡ None
  none_below zero p e l g h = next_none 0 p e l g (right_none (shortest t child 0 p) (chain_of t child 1 p) h)
  none_below (suc n) p e l g h =
      let a = none_below n p e l g (left_none (shortest t child (suc n) p) (chain_of t child (suc (suc n)) p) h) in
      let b = next_none (suc n) p e l g (right_none (shortest t child (suc n) p) (chain_of t child (suc (suc n)) p) h) in
      (λ i. option_or (a i) (b i))

  least_is : (n p e : ℕ) → e < t.size → shortest t child n p ≡ None → (t.opens e && t.holds p e) ≡ true → shortest t child n e ≡ chain_of t child n e
  least_is zero p e l h g = refl
  least_is (suc n) p e l h g = ap (λ o. option_or o (chain_of t child (suc n) e)) (none_below n p e l g h)

  by_one_is : (n p : ℕ) → shortest t child n p ≡ None → by_one t (shortest t child n) p ≡ chain_of t child (suc n) p
  by_one_is n p h = first_same (λ e. behind (t.opens e && t.holds p e) e (shortest t child n)) (λ e. behind (t.opens e && t.holds p e) e (chain_of t child n)) 0 t.size
      (λ e l. behind_same (t.opens e && t.holds p e) e (shortest t child n) (chain_of t child n) (least_is n p e (omega arith) h))

  wider_by : (n p : ℕ) (o : Option (List ℕ)) → shortest t child n p ≡ o → option_or o (by_one t (shortest t child n) p) ≡ option_or o (chain_of t child (suc n) p)
  wider_by n p None h = by_one_is n p h
  wider_by n p (Some c) h = refl

  pub wider_is : (n p : ℕ) → wider t (shortest t child n) p ≡ shortest t child (suc n) p
  wider_is n p = wider_by n p (shortest t child n p) refl

  -- what a chain of the least length is

  none_at : (n m p : ℕ) → shortest t child n p ≡ None → m ≤ n → chain_of t child m p ≡ None
  none_at zero m p h l = let z : 0 ≡ m = omega arith in subst (λ (x : ℕ). chain_of t child x p ≡ None) z h
  none_at (suc n) m p h l = elim (eq-or-lt_of_le l) [
    | inl q ↦ subst (λ (x : ℕ). chain_of t child x p ≡ None) (sym q) (right_none (shortest t child n p) (chain_of t child (suc n) p) h)
    | inr k ↦ none_at n m p (left_none (shortest t child n p) (chain_of t child (suc n) p) h) (omega arith)
  ]

  first_length : (g : ℕ → Option (List ℕ)) (n : ℕ) (es : List ℕ) (c : List ℕ) → ((e : ℕ) (d : List ℕ) → g e ≡ Some d → length d ≡ n) → first_some g es ≡ Some c → length c ≡ n
  first_length g n [] c k h = absurd (cc)
  first_length g n (e ∷ es) c k h = by (first_length g n es c k) (g e) refl h
    where
      by : (first_some g es ≡ Some c → length c ≡ n) → (o : Option (List ℕ)) → g e ≡ o → option_or o (first_some g es) ≡ Some c → length c ≡ n
      by rest None q z = rest z
      by rest (Some d) q z = k e c (q ∙ z)

  map_length : (e n : ℕ) (o : Option (List ℕ)) (d : List ℕ) → ((c : List ℕ) → o ≡ Some c → length c ≡ n) → option_map (λ c. e ∷ c) o ≡ Some d → length d ≡ suc n
  map_length e n None d k h = absurd (cc)
  map_length e n (Some c) d k h = let w : e ∷ c ≡ d = cc in ap length (sym w) ∙ ap suc (k c refl)

  behind_length : (b : Bool) (e n : ℕ) (f : ℕ → Option (List ℕ)) (d : List ℕ) → ((c : List ℕ) → f e ≡ Some c → length c ≡ n) → behind b e f ≡ Some d → length d ≡ suc n
  behind_length false e n f d k h = absurd (cc)
  behind_length true e n f d k h = map_length e n (f e) d k h

  chain_length : (n p : ℕ) (c : List ℕ) → chain_of t child n p ≡ Some c → length c ≡ n
  chain_length zero p c h = by (may t p child) h
    where
      by : (b : Bool) → (if b then Some [] else None) ≡ Some c → length c ≡ 0
      by true z = let w : [] ≡ c = cc in ap length (sym w)
      by false z = absurd (cc)
  chain_length (suc n) p c h = first_length (λ e. behind (t.opens e && t.holds p e) e (chain_of t child n)) (suc n) (range_with_len 0 t.size) c
      (λ e d q. behind_length (t.opens e && t.holds p e) e n (chain_of t child n) d (λ x y. chain_length n e x y) q) h

  least_some : (n p : ℕ) (c : List ℕ) → shortest t child n p ≡ Some c → IsChain t child p (Some c)
  least_some zero p c h =
      let k = chain_length 0 p c h in
      (subst (λ (x : ℕ). chain_of t child x p ≡ Some c) (sym k) h, λ m l. absurd (omega (arith, k)))
  least_some (suc n) p c h = by (least_some n p c) (shortest t child n p) refl h
    where
      by : (shortest t child n p ≡ Some c → IsChain t child p (Some c)) → (o : Option (List ℕ)) → shortest t child n p ≡ o → option_or o (chain_of t child (suc n) p) ≡ Some c → IsChain t child p (Some c)
      by rest (Some d) q z = rest (q ∙ z)
      by rest None q z =
          let k = chain_length (suc n) p c z in
          (subst (λ (x : ℕ). chain_of t child x p ≡ Some c) (sym k) z, λ m l. none_at n m p q (omega (arith, k)))

-- counting what is missing

pub upto_length : {A : Type 0} (f : ℕ → A) (n : ℕ) → length (upto f n) ≡ n
upto_length f n = length-map-range_with_len f 0 n

pub upto_more : {A : Type 0} (f : ℕ → A) (n : ℕ) → upto f (n + 1) ≡ upto f n ++ f n ∷ []
upto_more f n = map-range_with_len_more f 0 n n (omega arith)

pub upto_suc : {A : Type 0} (f : ℕ → A) (n : ℕ) → upto f (suc n) ≡ upto f n ++ f n ∷ []
upto_suc f n = let one : suc n ≡ n + 1 = omega arith in ap (upto f) one ∙ upto_more f n

pub upto_at : (f : ℕ → Option (List ℕ)) (n p : ℕ) → p < n → at (upto f n) p ≡ f p
upto_at f n p l = get_or-map-range_with_len f 0 n p p None l (omega arith)

missing_append : (l : List (Option (List ℕ))) (o : Option (List ℕ)) → missing (l ++ o ∷ []) ≡ missing l + missing (o ∷ [])
missing_append [] o = omega arith
missing_append (None ∷ l) o = let k = missing_append l o in omega (arith, k)
missing_append (Some c ∷ l) o = missing_append l o

missing_more : (f : ℕ → Option (List ℕ)) (n : ℕ) → missing (upto f (suc n)) ≡ missing (upto f n) + missing (f n ∷ [])
missing_more f n = ap missing (upto_suc f n) ∙ missing_append (upto f n) (f n)

missing_or : (a b : Option (List ℕ)) → missing (option_or a b ∷ []) ≤ missing (a ∷ [])
missing_or None None = omega arith
missing_or None (Some c) = omega arith
missing_or (Some c) b = omega arith

missing_falls : (f h : ℕ → Option (List ℕ)) (n : ℕ) → missing (upto (λ p. option_or (f p) (h p)) n) ≤ missing (upto f n)
missing_falls f h zero = omega arith
missing_falls f h (suc n) =
    let a = missing_falls f h n in
    let b = missing_or (f n) (h n) in
    let c = missing_more (λ p. option_or (f p) (h p)) n in
    let d = missing_more f n in
    omega (arith, a, b, c, d)

or_same : (a b : Option (List ℕ)) → missing (a ∷ []) ≤ missing (option_or a b ∷ []) → option_or a b ≡ a
or_same None None l = refl
or_same None (Some c) l = absurd (omega arith)
or_same (Some c) b l = refl

pub all_same : (f h : ℕ → Option (List ℕ)) (n : ℕ) → missing (upto f n) ≤ missing (upto (λ p. option_or (f p) (h p)) n) → (p : ℕ) → p < n → option_or (f p) (h p) ≡ f p
all_same f h zero l p k = absurd (omega arith)
all_same f h (suc n) l p k =
    let a = missing_falls f h n in
    let b = missing_or (f n) (h n) in
    let c = missing_more (λ p. option_or (f p) (h p)) n in
    let d = missing_more f n in
    let w : p ≤ n = omega arith in
    elim (eq-or-lt_of_le w) [
      | inl q ↦ subst (λ (x : ℕ). option_or (f x) (h x) ≡ f x) (sym q) (or_same (f n) (h n) (omega (arith, a, b, c, d)))
      | inr m ↦ all_same f h n (omega (arith, a, b, c, d)) p m
    ]

missing_one : (o : Option (List ℕ)) → missing (o ∷ []) ≤ 1
missing_one None = omega arith
missing_one (Some c) = omega arith

missing_most : (f : ℕ → Option (List ℕ)) (n : ℕ) → missing (upto f n) ≤ n
missing_most f zero = omega arith
missing_most f (suc n) =
    let a = missing_most f n in
    let b = missing_one (f n) in
    let c = missing_more f n in
    omega (arith, a, b, c)

-- a level that adds none is the last, and there is one

module _ (t : Holding) (child : Option ℕ) where
  -- the level n adds no chain from an element of the table
  abbrev pub Adds_none : ℕ → Type 0
  Adds_none n = (p : ℕ) → p < t.size → shortest t child (suc n) p ≡ shortest t child n p

  by_one_same : (f g : ℕ → Option (List ℕ)) → ((e : ℕ) → e < t.size → f e ≡ g e) → (p : ℕ) → by_one t f p ≡ by_one t g p
  by_one_same f g s p = first_same (λ e. behind (t.opens e && t.holds p e) e f) (λ e. behind (t.opens e && t.holds p e) e g) 0 t.size
      (λ e l. behind_same (t.opens e && t.holds p e) e f g (λ _. s e (omega arith)))

  pub wider_same : (f g : ℕ → Option (List ℕ)) → ((e : ℕ) → e < t.size → f e ≡ g e) → (p : ℕ) → p < t.size → wider t f p ≡ wider t g p
  wider_same f g s p l = (λ i. option_or (s p l i) (by_one_same f g s p i))

  steady : (n : ℕ) → Adds_none n → (k p : ℕ) → p < t.size → shortest t child (k + n) p ≡ shortest t child n p
  steady n s zero p l = let z : 0 + n ≡ n = omega arith in ap (λ (x : ℕ). shortest t child x p) z
  steady n s (suc k) p l =
      let z : suc k + n ≡ suc (k + n) = omega arith in
      ap (λ (x : ℕ). shortest t child x p) z ∙ sym (wider_is t child (k + n) p) ∙ wider_same (shortest t child (k + n)) (shortest t child n) (λ e m. steady n s k e m) p l ∙ wider_is t child n p ∙ s p l

  stays : (n m : ℕ) → Adds_none n → n ≤ m → (p : ℕ) → p < t.size → shortest t child m p ≡ shortest t child n p
  stays n m s l p k = let z : (m - n) + n ≡ m = omega arith in ap (λ (x : ℕ). shortest t child x p) (sym z) ∙ steady n s (m - n) p k

  found_so_far : ℕ → ℕ
  found_so_far n = missing (upto (shortest t child n) t.size)

  pub none_added : (n : ℕ) → missing (upto (shortest t child n) t.size) ≤ missing (upto (shortest t child (suc n)) t.size) → Adds_none n
  none_added n m p l = all_same (shortest t child n) (chain_of t child (suc n)) t.size m p l

  -- within k levels one adds none, or each has added one
  settles : (k : ℕ) → ((n : ℕ) × (n < k) × Adds_none n) ⊎ (missing (upto (shortest t child k) t.size) + k ≤ t.size)
  settles zero = inr (let a = missing_most (shortest t child 0) t.size in omega (arith, a))
  settles (suc k) = elim (settles k) [
    | inl w ↦ inl (w.0, (let l = w.1 in omega (arith, l)), w.2)
    | inr m ↦ elim (compare (missing (upto (shortest t child k) t.size)) (missing (upto (shortest t child (suc k)) t.size))) [
      | inl l ↦ inl (k, (omega arith), none_added k l)
      | inr g ↦ inr (omega arith)
    ]
  ]
    where
      compare : (x y : ℕ) → (x ≤ y) ⊎ (y < x)
      compare x y = grind arith

  last_level : (n : ℕ) × (n ≤ t.size) × Adds_none n
  last_level = elim (settles (suc t.size)) [
    | inl w ↦ (w.0, (let l = w.1 in omega (arith, l)), w.2)
    | inr m ↦ absurd (omega arith)
  ]

  -- the level of the table's size has them all
  all_levels : (m p : ℕ) → t.size ≤ m → p < t.size → shortest t child m p ≡ shortest t child t.size p
  all_levels m p l k =
      let n = last_level.0 in
      let a = last_level.1 in
      stays n m last_level.2 (omega (arith, a, l)) p k ∙ sym (stays n t.size last_level.2 a p k)

  pub enough : (n : ℕ) → Adds_none n → (p : ℕ) → p < t.size → shortest t child n p ≡ chain_between t p child
  unfolding chain_between
  enough n s p k = elim (compare n t.size) [
    | inl l ↦ sym (stays n t.size s l p k)
    | inr g ↦ all_levels n p g k
  ]
    where
      compare : (x y : ℕ) → (x ≤ y) ⊎ (y ≤ x)
      compare x y = grind arith

  pub chain_is : (p : ℕ) → p < t.size → IsChain t child p (chain_between t p child)
  unfolding chain_between
  chain_is p k = by (shortest t child t.size p) refl
    where
      by : (o : Option (List ℕ)) → shortest t child t.size p ≡ o → IsChain t child p o
      by None q = λ m. none_at t child (m + t.size) m p (all_levels (m + t.size) p (omega arith) k ∙ q) (omega arith)
      by (Some c) q = least_some t child t.size p c q
