-- Quotients that are taken in two steps.
use Rattle.std.proofs.Common.{◌≡◌, ◌∙◌, ap, sym, zero-add, arith, ℕ, zero, suc, ◌+◌, ◌*◌, ◌/◌, ◌%◌, ◌^◌, ◌<◌, ◌≤◌, List, [], ◌∷◌, length, get_or, drop, lit<}
use Rattle.std.proofs.Math.Nat.{mul-add-div, div-add-mod, div-div-eq-div-mul, pow-suc, div-le_of_le-mul, mul-le-mul_left, one-le-pow, add-mul, mul_assoc, mul_comm}
use Rattle.std.specs.Int.Digits.{number_from_digits, number_from_digits_after}

-- whole quotient and remainder: a number and a part of it, times a ratio
pub converted_in_steps : (unit whole part num den : ℕ) → zero < den →
    (unit * whole + part) * num / den ≡ unit * (whole * num / den) + (part * num + unit * (whole * num % den)) / den
converted_in_steps unit whole part num den some =
    let q : ℕ = whole * num / den in
    let r : ℕ = whole * num % den in
    let e : den * q + r ≡ whole * num = div-add-mod (whole * num) den in
    let f : (unit * whole + part) * num ≡ den * (unit * q) + (part * num + unit * r) = omega (arith, ap (λ n. unit * n) e) in
    ap (λ n. n / den) f ∙ mul-add-div some (unit * q) (part * num + unit * r)

spread : (n d p q s t : ℕ) → q ≡ p * 10 → t ≡ (0 + d) * p + s → (n * 10 + d) * p + s ≡ n * q + t
spread n d p q s t e f =
    let g : n * (10 * p) ≡ n * q = ap (λ z. n * z) (mul_comm 10 p ∙ sym e) in
    let h : (0 + d) * p ≡ d * p = ap (λ z. z * p) (zero-add d) in
    let k : (n * 10 + d) * p ≡ n * (10 * p) + d * p = add-mul (n * 10) d p ∙ ap (λ z. z + d * p) (mul_assoc n 10 p) in
    omega (arith, g, h, k, f)

-- the first digit's part of a number
pub number_first : (n : ℕ) (ds : List ℕ) → number_from_digits_after 10 n ds ≡ n * 10 ^ length ds + number_from_digits 10 ds
number_first n [] = omega arith
number_first n (d ∷ ds) = number_first (n * 10 + d) ds ∙ spread n d (10 ^ length ds) (10 ^ suc (length ds)) (number_from_digits 10 ds) (number_from_digits_after 10 (0 + d) ds) (pow-suc 10 (length ds)) (number_first (0 + d) ds)

-- a digit before the others, in a fraction
pub digit_before : (unit d n m h : ℕ) → zero < m → h ≡ unit * n / m → (h + unit * d) / 10 ≡ unit * (d * m + n) / (m * 10)
digit_before unit d n m h some e =
    let f : unit * (d * m + n) ≡ m * (unit * d) + unit * n = omega arith in
    let g : unit * (d * m + n) / m ≡ h + unit * d = ap (λ k. k / m) f ∙ mul-add-div some (unit * d) (unit * n) ∙ omega (arith, e) in
    ap (λ k. k / 10) (sym g) ∙ div-div-eq-div-mul (unit * (d * m + n)) m 10

-- halves of 65536ths, of one digit and those behind it
pub halves_before : (xs : List ℕ) (h d : ℕ) → 1 ≤ length xs → h ≡ 131072 * number_from_digits 10 (drop 1 xs) / 10 ^ length (drop 1 xs) →
    d ≡ get_or xs 0 0 → (h + 131072 * d) / 10 ≡ 131072 * number_from_digits 10 xs / 10 ^ length xs
halves_before [] h d some e f = absurd (omega arith)
halves_before (x ∷ xs) h d some e f =
    let m : ℕ = 10 ^ length xs in
    let n : ℕ = number_from_digits 10 xs in
    digit_before 131072 d n m h (one-le-pow (length xs) 10 (lit< tt)) e ∙ rw (f, number_first (0 + x) xs, zero-add x, pow-suc 10 (length xs))

-- a quotient of a product, where the ratio is small
pub quotient_bound : (whole num den bound : ℕ) → num ≤ bound * den → whole * num / den ≤ whole * bound
quotient_bound whole num den bound small = div-le_of_le-mul den (omega (arith, mul-le-mul_left whole small))
