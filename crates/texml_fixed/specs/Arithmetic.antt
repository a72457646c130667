-- Arithmetic within bounds (The TeXbook, chapter 24).
use Rattle.std.specs.Prelude.{◌≤ℤ◌, ℤ, pos, neg_ℤ, zero, int_le, int_div, ◌&&◌, if◌then◌else◌, Result, Ok, Err}
use Rattle.texml_fixed.specs.declared.fault.NumFault.{NumFault}
use Rattle.texml_fixed.specs.declared.fault.NumFault.TheVariants.{Overflow}
use Rattle.texml_fixed.specs.declared.arithmetic.TheConstants.{MAX_NUMBER}

-- a value that lies within the bound on either side of 0, or this fault
abbrev pub bounded : NumFault → ℤ → ℤ → Result ℤ NumFault
bounded fault bound value = if int_le (neg_ℤ bound) value && int_le value bound then Ok value else Err fault

-- a quotient, rounded towards 0
abbrev pub divided : ℤ → ℤ → Result ℤ NumFault
divided a (pos zero) = Err Overflow
divided a n = bounded Overflow MAX_NUMBER (int_div a n)

-- a number that doesn't pass ±2147483647
abbrev pub IsWithin : ℤ → Type 0
IsWithin n = neg_ℤ MAX_NUMBER ≤ℤ n
