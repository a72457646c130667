-- Decimals and 65536ths.
use Rattle.std.specs.Prelude.{ℕ, zero, suc, ◌+◌, ◌*◌, ◌/◌, ◌%◌, ◌^◌, Bool, List, [], ◌∷◌, ◌++◌, length, take, ◌==◌, if◌then◌else◌}
use Rattle.std.specs.Int.Digits.{number_from_digits}

-- a quotient, to the nearest whole number; halves go up
abbrev pub nearest : ℕ → ℕ → ℕ
nearest a b = (2 * a + b) / (2 * b)

-- so many units of the k-th decimal place, in 65536ths
abbrev pub from_decimals : ℕ → ℕ → ℕ
from_decimals k n = nearest (65536 * n) (10 ^ k)

-- so many 65536ths, in units of the k-th decimal place
abbrev pub to_decimals : ℕ → ℕ → ℕ
to_decimals k x = nearest (10 ^ k * x) 65536

-- the digits behind a point, of which only 17 count, in 65536ths
abbrev pub fraction : List ℕ → ℕ
fraction ds = let counted = take 17 ds in from_decimals (length counted) (number_from_digits 10 counted)

-- k decimals of a number of 65536ths read back as it
abbrev pub reads_back : ℕ → ℕ → Bool
reads_back x k = from_decimals k (to_decimals k x) == x

-- the fewest decimals that read back as so many 65536ths, but at least one: five always do
abbrev pub places : ℕ → ℕ
places x = if reads_back x 1 then 1 else if reads_back x 2 then 2 else if reads_back x 3 then 3 else if reads_back x 4 then 4 else 5

-- the last k digits of a number
abbrev pub last_digits : ℕ → ℕ → List ℕ
last_digits zero n = []
last_digits (suc k) n = last_digits k (n / 10) ++ n % 10 ∷ []
