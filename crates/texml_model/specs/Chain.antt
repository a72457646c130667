-- The chain of elements that open by themselves, through which a parent may hold a child. An element is its place in the
-- table; no element as a child is a text.
use Rattle.std.specs.Prelude.{◌≡◌, ◌⊎◌, ℕ, zero, suc, ◌<◌, ◌&&◌, Bool, true, false, List, [], ◌∷◌, length, Option, None, Some, if◌then◌else◌}
use Rattle.std.specs.Option.{option_map, option_or}
use Rattle.std.specs.List.{range_with_len}

-- which element may hold which: what chains are made of
pub record Holding : Type 0 where
  pub size : ℕ
  pub opens : ℕ → Bool
  pub takes_text : ℕ → Bool
  pub holds : ℕ → ℕ → Bool

abbrev pub may : Holding → ℕ → Option ℕ → Bool
may h p None = h.takes_text p
may h p (Some e) = h.holds p e

-- the first answer that f gives along these elements
abbrev pub first_some : (ℕ → Option (List ℕ)) → List ℕ → Option (List ℕ)
first_some f [] = None
first_some f (e ∷ es) = option_or (f e) (first_some f es)

-- a chain that begins with e, where e may stand there, and then goes on as f says
abbrev pub behind : Bool → ℕ → (ℕ → Option (List ℕ)) → Option (List ℕ)
behind true e f = option_map (λ c. e ∷ c) (f e)
behind false e f = None

-- a chain from p that begins with the first element from which f goes on
abbrev pub by_one : Holding → (ℕ → Option (List ℕ)) → ℕ → Option (List ℕ)
by_one h f p = first_some (λ e. behind (h.opens e && h.holds p e) e f) (range_with_len 0 h.size)

-- of the chains of so many elements the first in table order, place by place
abbrev pub chain_of : Holding → Option ℕ → ℕ → ℕ → Option (List ℕ)
chain_of h child zero p = if may h p child then Some [] else None
chain_of h child (suc n) p = by_one h (chain_of h child n) p

-- the shortest of the chains of at most so many elements, and of the shortest the first
abbrev pub shortest : Holding → Option ℕ → ℕ → ℕ → Option (List ℕ)
shortest h child zero p = chain_of h child zero p
shortest h child (suc n) p = option_or (shortest h child n p) (chain_of h child (suc n) p)

-- the chain from a parent to a child. The shortest has no element twice, so none is longer than the table
unfoldable pub chain_between : Holding → ℕ → Option ℕ → Option (List ℕ)
chain_between h p child = shortest h child h.size p

-- these elements lead from the parent to the child: each is in the table, opens by itself, and may stand where it is
abbrev pub Leads : Holding → ℕ → List ℕ → Option ℕ → Type 0
Leads h p [] child = may h p child ≡ true
Leads h p (e ∷ es) child = (e < h.size) × (h.opens e ≡ true) × (h.holds p e ≡ true) × Leads h e es child

-- table order, place by place
abbrev pub UpTo : List ℕ → List ℕ → Type 0
UpTo [] w = Unit {0}
UpTo (x ∷ xs) [] = ⊥
UpTo (x ∷ xs) (y ∷ ys) = (x < y) ⊎ ((x ≡ y) × UpTo xs ys)

-- no elements lead there, however many; or these do, and of all others that do none is shorter, and none as long comes first
abbrev pub IsFirst : Holding → ℕ → Option ℕ → Option (List ℕ) → Type 0
IsFirst h p child None = (w : List ℕ) → Leads h p w child → ⊥
IsFirst h p child (Some c) = Leads h p c child × ((w : List ℕ) → Leads h p w child → (length c < length w) ⊎ ((length c ≡ length w) × UpTo c w))

-- the law: for each parent of the table the chain is the first of the shortest
abbrev pub ChainsAreFirst : Type 0
ChainsAreFirst = (h : Holding) (p : ℕ) (child : Option ℕ) → p < h.size → IsFirst h p child (chain_between h p child)
