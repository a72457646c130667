-- What is printed reads back as the same value.
use Rattle.std.proofs.Common.{◌≡◌, ◌∙◌, ap, subst, ℕ, zero, suc, true, ◌+◌, ◌*◌, ◌/◌, ◌%◌, ◌<◌, ◌≤◌, ◌^◌, length, take, arith, eq-eqb, lit<}
use Rattle.std.proofs.Math.Nat.{one-le-pow, pow-suc, lt-div-mul-add, mul-le-mul_right}
use Rattle.std.proofs.lemmas.Bool.{eqb-true}
use Rattle.std.proofs.lemmas.Nat.{div_below}
use Rattle.std.proofs.lemmas.List.{take_all}
use Rattle.std.proofs.lemmas.Int.Digits.{number_push}
use Rattle.std.specs.Int.Digits.{number_from_digits}
use Rattle.texml_fixed.specs.Decimals.{from_decimals, to_decimals, fraction, reads_back, last_digits, places}
use Rattle.texml_fixed.specs.Printing.{decimals}
use Rattle.texml_fixed.proofs.Putting.{length-last_digits}

pub number_last_digits : (k n : ℕ) → n < 10 ^ k → number_from_digits 10 (last_digits k n) ≡ n
number_last_digits zero n small = omega arith
number_last_digits (suc k) n small =
    number_push 10 (last_digits k (n / 10)) (n % 10)
    ∙ omega (arith, number_last_digits k (n / 10) (div_below n 10 (10 ^ k) (lit< tt) (omega (arith, pow-suc 10 k))))

-- five decimals of less than 65536 always read back
pub five_read_back : (x : ℕ) → x < 65536 → reads_back x 5 ≡ true
five_read_back x small = eq-eqb (from_decimals 5 (to_decimals 5 x)) x (omega arith)

-- a number of decimal units that reads back as less than a whole is less than a whole
below_whole : (n p x : ℕ) → zero < p → x < 65536 → (2 * (65536 * n) + p) / (2 * p) ≡ x → n < p
below_whole n p x some small e =
    let a : ℕ = 2 * (65536 * n) + p in
    let room : zero < 2 * p = omega arith in
    let h : a < a / (2 * p) * (2 * p) + 2 * p = lt-div-mul-add room in
    let f : a / (2 * p) * (2 * p) ≡ x * (2 * p) = ap (λ q. q * (2 * p)) e in
    let g : x * (2 * p) ≤ 65535 * (2 * p) = mul-le-mul_right (2 * p) (omega arith) in
    omega (arith, h, f, g)

-- decimals that read back, as digits
pub digits_read_back : (x k : ℕ) → x < 65536 → k ≤ 5 → reads_back x k ≡ true → fraction (last_digits k (to_decimals k x)) ≡ x
digits_read_back x k small few e =
    let n : ℕ = to_decimals k x in
    let same : from_decimals k n ≡ x = eqb-true (from_decimals k n) x e in
    let whole : n < 10 ^ k = below_whole n (10 ^ k) x (one-le-pow k 10 (lit< tt)) small same in
    let count : length (last_digits k n) ≡ k = length-last_digits k n in
    let all : take 17 (last_digits k n) ≡ last_digits k n = take_all 17 (last_digits k n) (omega (arith, count)) in
    rw (all, count, number_last_digits k n whole) same

-- the fewest decimals that read back, read back
pub decimals_read_back : (x k : ℕ) → x < 65536 → k ≤ 5 → reads_back x k ≡ true → k ≡ places x → fraction (decimals x) ≡ x
decimals_read_back x k small few e same =
    subst (λ j. fraction (last_digits j (to_decimals j x)) ≡ x) same (digits_read_back x k small few e)
