-- Each chain that is found leads there, and is the first of the shortest.
use Rattle.std.proofs.Common.{arith, ◌≡◌, ◌⊎◌, ◌∙◌, ap, inl, inr, sym, refl, subst, ℕ, zero, suc, ◌+◌, ◌<◌, ◌≤◌, ◌&&◌, Bool, true, false, List, [], ◌∷◌, length, Option, None, Some, if◌then◌else◌, eq-or-lt_of_le}
use Rattle.std.specs.Option.{option_map, option_or}
use Rattle.std.specs.List.{range_with_len}
use Rattle.texml_model.specs.Chain.{Holding, may, first_some, behind, by_one, chain_of, shortest, chain_between, Leads, UpTo, IsFirst, ChainsAreFirst}
use Rattle.texml_model.proofs.Least.{IsChain, chain_is}

-- an answer that isn't later than w
abbrev AtMost : Option (List ℕ) → List ℕ → Type 0
AtMost None w = ⊥
AtMost (Some c) w = UpTo c w

-- every answer of g at e begins with e
abbrev StartsAtItself : (ℕ → Option (List ℕ)) → Type 0
StartsAtItself g = (e : ℕ) (d : List ℕ) → g e ≡ Some d → (c : List ℕ) × (d ≡ e ∷ c)

map_begins : (e : ℕ) (o : Option (List ℕ)) (d : List ℕ) → option_map (λ c. e ∷ c) o ≡ Some d → (c : List ℕ) × (d ≡ e ∷ c)
map_begins e None d h = absurd (cc)
map_begins e (Some c) d h = let z : d ≡ e ∷ c = cc in (c, z)

behind_begins : (b : Bool) (e : ℕ) (f : ℕ → Option (List ℕ)) (d : List ℕ) → behind b e f ≡ Some d → (c : List ℕ) × (d ≡ e ∷ c)
behind_begins false e f d h = absurd (cc)
behind_begins true e f d h = map_begins e (f e) d h

earlier : (n e : ℕ) (w d : List ℕ) → n < e → ((c : List ℕ) × (d ≡ n ∷ c)) → UpTo d (e ∷ w)
earlier n e w d h b = subst (λ (x : List ℕ). UpTo x (e ∷ w)) (sym b.1) (inl h)

step_by : (n e : ℕ) (w : List ℕ) (o rest : Option (List ℕ)) → n < e → ((d : List ℕ) → o ≡ Some d → (c : List ℕ) × (d ≡ n ∷ c)) → AtMost rest (e ∷ w) → AtMost (option_or o rest) (e ∷ w)
step_by n e w None rest h b r = r
step_by n e w (Some d) rest h b r = earlier n e w d h (b d refl)

here_by : (o rest : Option (List ℕ)) (w : List ℕ) → AtMost o w → AtMost (option_or o rest) w
here_by None rest w h = absurd h
here_by (Some c) rest w h = h

first_at : (g : ℕ → Option (List ℕ)) → StartsAtItself g → (n k e : ℕ) (w : List ℕ) → n ≤ e → e < n + k → AtMost (g e) (e ∷ w) → AtMost (first_some g (range_with_len n k)) (e ∷ w)
first_at g b n zero e w l h a = absurd (omega arith)
first_at g b n (suc k) e w l h a = elim (eq-or-lt_of_le l) [
  | inl q ↦ here_by (g n) (first_some g (range_with_len (n + 1) k)) (e ∷ w) (subst (λ (x : ℕ). AtMost (g x) (e ∷ w)) (sym q) a)
  | inr m ↦ step_by n e w (g n) (first_some g (range_with_len (n + 1) k)) m (b n) (first_at g b (n + 1) k e w (omega arith) (omega arith) a)
]

behind_at : (e : ℕ) (o : Option (List ℕ)) (w : List ℕ) → AtMost o w → AtMost (option_map (λ c. e ∷ c) o) (e ∷ w)
behind_at e None w h = absurd h
behind_at e (Some c) w h = inr (refl, h)

both_true : (a b : Bool) → a ≡ true → b ≡ true → (a && b) ≡ true
both_true a b h k = rw (h, k) refl

at_most : (h : Holding) (child : Option ℕ) (p : ℕ) (w : List ℕ) → Leads h p w child → AtMost (chain_of h child (length w) p) w
at_most h child p [] l = subst (λ (b : Bool). AtMost (if b then Some [] else None) []) (sym l) tt
at_most h child p (e ∷ w) l =
    let g : (h.opens e && h.holds p e) ≡ true = both_true (h.opens e) (h.holds p e) l.1 l.2 in
    let f : ℕ → Option (List ℕ) = chain_of h child (length w) in
    first_at (λ x. behind (h.opens x && h.holds p x) x f) (λ x d q. behind_begins (h.opens x && h.holds p x) x f d q) 0 h.size e w (omega arith) (omega (arith, l.0))
    (subst (λ (b : Bool). AtMost (behind b e f) (e ∷ w)) (sym g) (behind_at e (f e) w (at_most h child e w l.3)))

-- what is found leads there

found_by : (P : List ℕ → Type 0) (rest o : Option (List ℕ)) (c : List ℕ) → (o ≡ Some c → P c) → (rest ≡ Some c → P c) → option_or o rest ≡ Some c → P c
found_by P rest None c a b h = b h
found_by P rest (Some d) c a b h = a h

found_leads : (g : ℕ → Option (List ℕ)) (P : List ℕ → Type 0) (n k : ℕ) (c : List ℕ) → ((e : ℕ) (d : List ℕ) → e < n + k → g e ≡ Some d → P d) → first_some g (range_with_len n k) ≡ Some c → P c
found_leads g P n zero c f h = absurd (cc)
found_leads g P n (suc k) c f h = found_by P (first_some g (range_with_len (n + 1) k)) (g n) c (f n c (omega arith)) (found_leads g P (n + 1) k c (λ e d l. f e d (omega arith))) h

map_leads : (h : Holding) (child : Option ℕ) (p e : ℕ) (o : Option (List ℕ)) (d : List ℕ) → e < h.size → h.opens e ≡ true → h.holds p e ≡ true → ((c : List ℕ) → o ≡ Some c → Leads h e c child) → option_map (λ c. e ∷ c) o ≡ Some d → Leads h p d child
map_leads h child p e None d l x y f q = absurd (cc)
map_leads h child p e (Some c) d l x y f q = let z : e ∷ c ≡ d = cc in subst (λ (w : List ℕ). Leads h p w child) z (l, x, y, f c refl)

behind_leads : (h : Holding) (child : Option ℕ) (p e : ℕ) (a b : Bool) (f : ℕ → Option (List ℕ)) (d : List ℕ) → e < h.size → h.opens e ≡ a → h.holds p e ≡ b → ((c : List ℕ) → f e ≡ Some c → Leads h e c child) → behind (a && b) e f ≡ Some d → Leads h p d child
behind_leads h child p e false b f d l x y k q = absurd (cc)
behind_leads h child p e true false f d l x y k q = absurd (cc)
behind_leads h child p e true true f d l x y k q = map_leads h child p e (f e) d l x y k q

direct_leads : (h : Holding) (child : Option ℕ) (p : ℕ) (b : Bool) (c : List ℕ) → may h p child ≡ b → (if b then Some [] else None) ≡ Some c → Leads h p c child
direct_leads h child p true c e q = let z : [] ≡ c = cc in subst (λ (w : List ℕ). Leads h p w child) z e
direct_leads h child p false c e q = absurd (cc)

chain_leads : (h : Holding) (child : Option ℕ) (n p : ℕ) (c : List ℕ) → chain_of h child n p ≡ Some c → Leads h p c child
chain_leads h child zero p c q = direct_leads h child p (may h p child) c refl q
chain_leads h child (suc n) p c q = found_leads (λ e. behind (h.opens e && h.holds p e) e (chain_of h child n)) (λ d. Leads h p d child) 0 h.size c
    (λ e d l z. behind_leads h child p e (h.opens e) (h.holds p e) (chain_of h child n) d (omega arith) refl refl (λ x y. chain_leads h child n e x y) z) q

shortest_leads : (h : Holding) (child : Option ℕ) (n p : ℕ) (c : List ℕ) → shortest h child n p ≡ Some c → Leads h p c child
shortest_leads h child zero p c q = chain_leads h child 0 p c q
shortest_leads h child (suc n) p c q = found_by (λ d. Leads h p d child) (chain_of h child (suc n) p) (shortest h child n p) c (shortest_leads h child n p c) (chain_leads h child (suc n) p c) q

pub between_leads : (h : Holding) (p : ℕ) (child : Option ℕ) (c : List ℕ) → chain_between h p child ≡ Some c → Leads h p c child
unfolding chain_between
between_leads h p child c q = shortest_leads h child h.size p c q

longer_by : (n m : ℕ) (o : Option (List ℕ)) (c w : List ℕ) → (m < n → o ≡ None) → (m ≡ n → o ≡ Some c) → AtMost o w → (n < m) ⊎ ((n ≡ m) × UpTo c w)
longer_by n m None c w a b h = absurd h
longer_by n m (Some d) c w a b h = elim (compare n m) [
  | inl l ↦ inl l
  | inr r ↦ elim r [ inl e ↦ inr (e, (let z : d ≡ c = (let y = b (sym e) in cc) in subst (λ (x : List ℕ). UpTo x w) z h)) | inr g ↦ absurd (let y = a g in cc) ]
]
  where
    compare : (x y : ℕ) → (x < y) ⊎ ((x ≡ y) ⊎ (y < x))
    compare x y = grind arith

is_first : (h : Holding) (p : ℕ) (child : Option ℕ) (o : Option (List ℕ)) → IsChain h child p o → IsFirst h p child o
is_first h p child None q = λ w l. subst (λ o. AtMost o w) (q (length w)) (at_most h child p w l)
is_first h p child (Some c) q = (
  chain_leads h child (length c) p c q.0,
  λ w l. longer_by (length c) (length w) (chain_of h child (length w) p) c w (λ k. q.1 (length w) k) (λ e. subst (λ (n : ℕ). chain_of h child n p ≡ Some c) (sym e) q.0) (at_most h child p w l),
)

pub chains_first : ChainsAreFirst
chains_first h p child l = is_first h p child (chain_between h p child) (chain_is h child p l)
