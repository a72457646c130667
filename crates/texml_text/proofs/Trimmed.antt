-- A line without the spaces at its end.
use Rattle.std.proofs.Common.{◌≡◌, ◌≢◌, ℕ, zero, suc, ◌-◌, ◌<◌, ◌≤◌, List, [], ◌∷◌, ◌++◌, length, get_or, take, ◌==◌, if◌then◌else◌, ◌&&◌, true, false, refl, sym, arith, length-append, Bool}
use Rattle.std.proofs.lemmas.Bool.{ne_eqb}
use Rattle.std.proofs.Math.Seq.{take-suc}
use Rattle.texml_text.specs.Lines.{trim_end}

trim_end-space : (xs : List ℕ) → trim_end (xs ++ 32 ∷ []) ≡ trim_end xs
trim_end-space [] = refl
trim_end-space (x ∷ xs) = rw (trim_end-space xs) refl

-- what is added to is not empty
nonempty : (xs : List ℕ) (c : ℕ) → (length (xs ++ c ∷ []) == 0) ≡ false
nonempty xs c = ne_eqb (length (xs ++ c ∷ [])) 0 (λ e. omega (arith, length-append xs (c ∷ []), e))

no_and : (b : Bool) (xs : List ℕ) → (if b && false then [] else xs) ≡ xs
no_and true xs = refl
no_and false xs = refl

trim_end-other : (xs : List ℕ) (c : ℕ) → c ≢ 32 → trim_end (xs ++ c ∷ []) ≡ xs ++ c ∷ []
trim_end-other [] c ne = rw (ne_eqb c 32 ne) refl
trim_end-other (x ∷ xs) c ne =
    rw (trim_end-other xs c ne) (rw (nonempty xs c) (no_and (x == 32) (x ∷ (xs ++ c ∷ []))))

-- one space less
pub trim_end-less : (xs : List ℕ) (n : ℕ) → n < length xs → get_or xs n 0 ≡ 32 → trim_end (take (suc n) xs) ≡ trim_end (take n xs)
trim_end-less xs n lt e = rw (take-suc xs n 0 lt, e) (trim_end-space (take n xs))

-- a character that is no space is the last
pub trim_end-last : (xs : List ℕ) (n : ℕ) → n < length xs → get_or xs n 0 ≢ 32 → trim_end (take (suc n) xs) ≡ take (suc n) xs
trim_end-last xs n lt ne = rw (take-suc xs n 0 lt) (trim_end-other (take n xs) (get_or xs n 0) ne)

pub trimmed_less : (xs : List ℕ) (n : ℕ) → 0 < n → n ≤ length xs → get_or xs (n - 1) 0 ≡ 32 → trim_end (take (n - 1) xs) ≡ trim_end (take n xs)
trimmed_less xs zero p lt e = absurd (omega arith)
trimmed_less xs (suc n) p lt e =
    let same : suc n - 1 ≡ n = omega arith in
    let f : get_or xs n 0 ≡ 32 = rw same at e in
    rw same (sym (trim_end-less xs n (omega arith) f))

pub trimmed_last : (xs : List ℕ) (n : ℕ) → 0 < n → n ≤ length xs → get_or xs (n - 1) 0 ≢ 32 → take n xs ≡ trim_end (take n xs)
trimmed_last xs zero p lt e = absurd (omega arith)
trimmed_last xs (suc n) p lt e =
    let same : suc n - 1 ≡ n = omega arith in
    let f : get_or xs n 0 ≢ 32 = rw same at e in
    sym (trim_end-last xs n (omega arith) f)

pub ruleset trimmed = (trimmed_less, trimmed_last)
