-- What is printed, part by part.
use Rattle.std.proofs.Common.{◌≡◌, ap, ℕ, suc, ℤ, pos, negsuc, Bool, true, false, ◌+◌, ◌/◌, ◌%◌, ◌<◌, ◌≤◌, ◌^◌, List, [], ◌∷◌, ◌++◌, length, map, arith, append_assoc, unsigned_abs, int_lt, nat_lt, lit<}
use Rattle.std.proofs.lemmas.Fmt.{length-decimal-le}
use Rattle.std.specs.Fmt.{decimal, sign_text}
use Rattle.texml_fixed.specs.Printing.{printed, decimals}

abbrev pub parts : Bool → ℕ → List ℕ → List ℕ
parts negative n ds = ((sign_text negative ++ decimal (n / 65536)) ++ 46 ∷ []) ++ map (λ d. 48 + d) ds

not_below : (n : ℕ) → nat_lt n 0 ≡ false
not_below n = grind arith

pub parts_printed : (z : ℤ) → parts (int_lt z (pos 0)) (unsigned_abs z) (decimals (unsigned_abs z % 65536)) ≡ printed z
parts_printed (pos n) = rw (not_below n) (append_assoc (decimal (n / 65536)) (46 ∷ []) (map (λ d. 48 + d) (decimals (n % 65536))))
parts_printed (negsuc n) =
    ap (λ l. 45 ∷ l) (append_assoc (decimal (suc n / 65536)) (46 ∷ []) (map (λ d. 48 + d) (decimals (suc n % 65536))))

-- the sign and the whole number have six bytes at most
pub length-whole : (n : ℕ) → n < 2 ^ 32 → length (decimal (n / 65536)) ≤ 5
length-whole n high = length-decimal-le 5 (n / 65536) (lit< tt) (omega arith) (omega arith)

pub length-sign : (b : Bool) → length (sign_text b) ≤ 1
length-sign true = omega arith
length-sign false = omega arith
