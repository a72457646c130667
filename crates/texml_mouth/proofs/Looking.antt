-- Groups of carets.
use Rattle.std.proofs.Common.{◌≡◌, ℕ, ◌+◌, ◌≤◌, ◌<◌, List, [], ◌∷◌, length, drop, get_or, Bool, true, false, ◌&&◌, nat_lt, cond, refl, arith, rules}
use Rattle.std.proofs.lemmas.Bool.Decides.{nat_tests}
use Rattle.std.specs.Char.{IsScalar}
use Rattle.texml_mouth.specs.Looked.{look, look_at, settled, is_pair, begins_hex, is_hex_digit, hex_code, turned}

pub begins_hex_short : (text : List ℕ) → length text < 2 → begins_hex text ≡ false
begins_hex_short [] lt = refl
begins_hex_short (x ∷ []) lt = refl
begins_hex_short (x ∷ y ∷ tail) lt = absurd (omega arith)

pub begins_hex_at : (text : List ℕ) → 2 ≤ length text → begins_hex text ≡ is_hex_digit (get_or text 0 0) && is_hex_digit (get_or text 1 0)
begins_hex_at [] le = absurd (omega arith)
begins_hex_at (x ∷ []) le = absurd (omega arith)
begins_hex_at (x ∷ y ∷ tail) le = refl

pub ruleset hex_tests = (begins_hex_short, begins_hex_at)

pub scalar_below : (c : ℕ) → c < 256 → IsScalar c
scalar_below c lt = grind (arith, nat_tests)

is_pair_yes : (cats : ℕ → ℕ) (c d : ℕ) → cats c ≡ 7 → d ≡ c → is_pair cats c d ≡ true
is_pair_yes cats c d seven same = search (rules, nat_tests)

-- a group with two digits
pub long_group : (cats : ℕ → ℕ) (c : ℕ) (behind : List ℕ) → 3 ≤ length behind → cats c ≡ 7 → get_or behind 0 0 ≡ c → begins_hex (drop 1 behind) ≡ true
    → settled cats (c ∷ behind) ≡ settled cats (hex_code (get_or behind 1 0) (get_or behind 2 0) ∷ drop 3 behind)
long_group cats c [] le seven same hex = absurd (omega arith)
long_group cats c (d ∷ []) le seven same hex = absurd (omega arith)
long_group cats c (d ∷ x ∷ []) le seven same hex = absurd (omega arith)
long_group cats c (d ∷ x ∷ y ∷ tail) le seven same hex = rw (is_pair_yes cats c d seven same, hex) refl

-- a group with one character
pub short_group : (cats : ℕ → ℕ) (c : ℕ) (behind : List ℕ) → 2 ≤ length behind → cats c ≡ 7 → get_or behind 0 0 ≡ c → begins_hex (drop 1 behind) ≡ false → get_or behind 1 0 < 128
    → settled cats (c ∷ behind) ≡ settled cats (turned (get_or behind 1 0) ∷ drop 2 behind)
short_group cats c [] le seven same hex low = absurd (omega arith)
short_group cats c (d ∷ []) le seven same hex low = absurd (omega arith)
short_group cats c (d ∷ x ∷ []) le seven same hex low =
    let test : nat_lt x 128 ≡ true = search (rules, nat_tests) in rw (is_pair_yes cats c d seven same, test) refl
short_group cats c (d ∷ x ∷ y ∷ tail) le seven same hex low =
    let test : nat_lt x 128 ≡ true = search (rules, nat_tests) in rw (is_pair_yes cats c d seven same, hex, test) refl

-- what a fold makes of a text whose first character is written as it is looked at
abbrev pub at_front : {A : Type 0} → (ℕ → ℕ) → A → (ℕ → List ℕ → A → A) → List ℕ → A
at_front cats empty step [] = empty
at_front cats empty step (c ∷ tail) = step c tail (look cats empty step tail)

by_test : {A : Type 0} {B : Type 0} (f : B → A) (b : Bool) (x y : A) (u v : B) → x ≡ f u → y ≡ f v → cond b x y ≡ f (cond b u v)
by_test f true x y u v p q = p
by_test f false x y u v p q = q

look_at_front : {A : Type 0} (cats : ℕ → ℕ) (empty : A) (step : ℕ → List ℕ → A → A) (c : ℕ) (tail : List ℕ)
    → look_at cats empty step c tail ≡ at_front cats empty step (settled cats (c ∷ tail))
look_at_front cats empty step c [] = refl
look_at_front cats empty step c (d ∷ []) = refl
look_at_front cats empty step c (d ∷ x ∷ []) =
    by_test (at_front cats empty step) (is_pair cats c d && nat_lt x 128) _ _ _ _ (look_at_front cats empty step (turned x) []) refl
look_at_front cats empty step c (d ∷ x ∷ y ∷ tail) =
    by_test (at_front cats empty step) (is_pair cats c d && begins_hex (x ∷ y ∷ tail)) _ _ _ _
    (look_at_front cats empty step (hex_code x y) tail)
    (by_test (at_front cats empty step) (is_pair cats c d && nat_lt x 128) _ _ _ _ (look_at_front cats empty step (turned x) (y ∷ tail)) refl)

-- a fold is one step at the front as it is looked at
pub look-front : {A : Type 0} (cats : ℕ → ℕ) (empty : A) (step : ℕ → List ℕ → A → A) (text : List ℕ)
    → look cats empty step text ≡ at_front cats empty step (settled cats text)
look-front cats empty step [] = refl
look-front cats empty step (c ∷ tail) = look_at_front cats empty step c tail

le_test : (b : Bool) (u v : List ℕ) (n : ℕ) → length u ≤ n → length v ≤ n → length (cond b u v) ≤ n
le_test true u v n p q = p
le_test false u v n p q = q

settled_at-length : (cats : ℕ → ℕ) (c : ℕ) (tail : List ℕ) → length (settled cats (c ∷ tail)) ≤ 1 + length tail
settled_at-length cats c [] = omega arith
settled_at-length cats c (d ∷ []) = omega arith
settled_at-length cats c (d ∷ x ∷ []) =
    le_test (is_pair cats c d && nat_lt x 128) _ _ _ (omega (arith, settled_at-length cats (turned x) [])) (omega arith)
settled_at-length cats c (d ∷ x ∷ y ∷ tail) =
    le_test (is_pair cats c d && begins_hex (x ∷ y ∷ tail)) _ _ _
    (omega (arith, settled_at-length cats (hex_code x y) tail))
    (le_test (is_pair cats c d && nat_lt x 128) _ _ _ (omega (arith, settled_at-length cats (turned x) (y ∷ tail))) (omega arith))

-- a text gets no longer as it is looked at
pub settled-length : (cats : ℕ → ℕ) (text : List ℕ) → length (settled cats text) ≤ length text
settled-length cats [] = omega arith
settled-length cats (c ∷ tail) = omega (arith, settled_at-length cats c tail)
