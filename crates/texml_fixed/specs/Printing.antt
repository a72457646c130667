-- How a dimension is printed, in points (The TeXbook, chapter 24).
use Rattle.std.specs.Prelude.{ℕ, ℤ, pos, negsuc, suc, ◌+◌, ◌/◌, ◌%◌, List, ◌∷◌, ◌++◌, map}
use Rattle.std.specs.Fmt.{decimal}
use Rattle.texml_fixed.specs.Decimals.{places, to_decimals, last_digits}

-- the decimals of so many 65536ths: the fewest that read back as them, but at least one
abbrev pub decimals : ℕ → List ℕ
decimals x = last_digits (places x) (to_decimals (places x) x)

-- so many scaled points as a number of points, with a point and decimals
abbrev pub printed_amount : ℕ → List ℕ
printed_amount n = decimal (n / 65536) ++ 46 ∷ map (λ d. 48 + d) (decimals (n % 65536))

-- the same with a sign, where it is negative
abbrev pub printed : ℤ → List ℕ
printed (pos n) = printed_amount n
printed (negsuc n) = 45 ∷ printed_amount (suc n)
