-- The first of a few numbers that passes a test.
use Rattle.std.proofs.Common.{◌≡◌, ◌≤◌, ◌<◌, ℕ, zero, suc, Bool, true, false, if◌then◌else◌, arith, lit<, lit≤}

abbrev pub first_of : (ℕ → Bool) → ℕ
first_of p = if p 1 then 1 else if p 2 then 2 else if p 3 then 3 else if p 4 then 4 else 5

abbrev pub NoneBelow : (ℕ → Bool) → ℕ → Type 0
NoneBelow p k = (j : ℕ) → 1 ≤ j → j < k → p j ≡ false

pub first_passes : (p : ℕ → Bool) (k : ℕ) → 1 ≤ k → k < 5 → NoneBelow p k → p k ≡ true → first_of p ≡ k
first_passes p zero low high none here = absurd (omega arith)
first_passes p (suc zero) low high none here = rw here
first_passes p (suc (suc zero)) low high none here = rw (none 1 (lit≤ tt) (lit< tt), here)
first_passes p (suc (suc (suc zero))) low high none here = rw (none 1 (lit≤ tt) (lit< tt), none 2 (lit≤ tt) (lit< tt), here)
first_passes p (suc (suc (suc (suc zero)))) low high none here =
    rw (none 1 (lit≤ tt) (lit< tt), none 2 (lit≤ tt) (lit< tt), none 3 (lit≤ tt) (lit< tt), here)
first_passes p (suc (suc (suc (suc (suc k))))) low high none here = absurd (omega arith)

pub none_passes : (p : ℕ → Bool) → NoneBelow p 5 → first_of p ≡ 5
none_passes p none =
    rw (none 1 (lit≤ tt) (lit< tt), none 2 (lit≤ tt) (lit< tt), none 3 (lit≤ tt) (lit< tt), none 4 (lit≤ tt) (lit< tt))
