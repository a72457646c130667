-- Quotients of signed numbers: by cases, and in a wider type.
use Rattle.std.proofs.Common.{◌≡◌, ◌≤◌, ◌+◌, ◌/◌, ℕ, refl, zero, suc, pos, negsuc, neg_ℤ, ℤ, w32, w64, of_z, int_div, FitsSigned, arith}
use Rattle.std.proofs.Math.Nat.{div-le_self}
use lib.Signed.{mag}
use Rattle.texml_fixed.specs.declared.fault.NumFault.TheVariants.{Overflow}
use Rattle.texml_fixed.specs.declared.arithmetic.TheConstants.{MAX_NUMBER}
use Rattle.texml_fixed.specs.Arithmetic.{bounded, divided}

-- a quotient by another number than 0
pub divided_nonzero : (a n : ℤ) → (of_z w32 n ≡ 0 → ⊥) → divided a n ≡ bounded Overflow MAX_NUMBER (int_div a n)
divided_nonzero a (pos zero) other = absurd (other refl)
divided_nonzero a (pos (suc n)) other = refl
divided_nonzero a (negsuc n) other = refl

mag-neg : (n : ℕ) → mag (neg_ℤ (pos n)) ≤ n
mag-neg zero = omega arith
mag-neg (suc n) = omega arith

-- a quotient isn't further from 0 than what is divided
pub mag-quotient : (a d : ℤ) → mag (int_div a d) ≤ mag a + 1
mag-quotient (pos a) (pos b) = omega (arith, div-le_self a b)
mag-quotient (pos a) (negsuc b) = omega (arith, div-le_self a (suc b), mag-neg (a / suc b))
mag-quotient (negsuc a) (pos b) = omega (arith, div-le_self (suc a) b, mag-neg (suc a / b))
mag-quotient (negsuc a) (negsuc b) = omega (arith, div-le_self (suc a) (suc b))

-- a quotient of smaller numbers fits
pub quotient_fits : (a d : ℤ) → FitsSigned w32 a → FitsSigned w64 (int_div a d)
quotient_fits a d fits = record { sfits = omega (arith, mag-quotient a d, fits.sfits) }
