-- Places in lists.
use Rattle.std.proofs.Common.{arith, ◌≡◌, ◌∙◌, sym, ℕ, ◌<◌, ◌≤◌, Bool, true, false, cond, nat_lt, not, List, [], ◌∷◌, length, Option, Some, None, refl}
use Rattle.std.proofs.lemmas.Bool.Decides.{nat_tests}
use Rattle.std.proofs.lemmas.List.Sums.{prefix_len-le-length}
use Rattle.std.specs.List.{position, position_or_len}

some_by : (b : Bool) (n i : ℕ) → cond b (Some n) None ≡ Some i → i ≡ n
some_by true n i e = cc
some_by false n i e = absurd (cc)

none_by : (b : Bool) (n : ℕ) → cond b (Some n) None ≡ None → b ≡ false
none_by true n e = absurd (cc)
none_by false n e = refl

most_by : (n m : ℕ) → nat_lt n m ≡ false → n ≤ m → m ≡ n
most_by n m e h = grind (arith, nat_tests)

pub found_place : {A : Type 0} (p : A → Bool) (xs : List A) (i : ℕ) → position p xs ≡ Some i → i ≡ position_or_len p xs
found_place p xs i e = some_by (nat_lt (position_or_len p xs) (length xs)) (position_or_len p xs) i e

pub no_place : {A : Type 0} (p : A → Bool) (xs : List A) → position p xs ≡ None → length xs ≡ position_or_len p xs
no_place p xs e = most_by (position_or_len p xs) (length xs) (none_by (nat_lt (position_or_len p xs) (length xs)) (position_or_len p xs) e) (prefix_len-le-length (λ x. not (p x)) xs)
