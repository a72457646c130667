-- Units, and the dimensions that are written in them (The TeXbook, chapter 10).
use Rattle.std.specs.Prelude.{ℕ, ℤ, pos, neg_ℤ, ◌+◌, ◌*◌, ◌/◌, List, if◌then◌else◌, nat_lt, int_lt, Result, Ok, Err, unsigned_abs}
use Rattle.texml_fixed.specs.declared.fault.NumFault.{NumFault}
use Rattle.texml_fixed.specs.declared.fault.NumFault.TheVariants.{TooLarge}
use Rattle.texml_fixed.specs.declared.scaled.Scaled.{Scaled}
use Rattle.texml_fixed.specs.declared.unit.Unit.{Unit}
use Rattle.texml_fixed.specs.declared.unit.Unit.TheVariants.{Pt, In, Pc, Cm, Mm, Bp, Dd, Cc, Sp, Em, Ex, Own}
use Rattle.texml_fixed.specs.Decimals.{fraction}

-- a unit in points, as a fraction, without its sign: 100 inches are 7227 points
abbrev pub ratio : Unit → ℕ × ℕ
ratio Pt = (1, 1)
ratio In = (7227, 100)
ratio Pc = (12, 1)
ratio Cm = (7227, 254)
ratio Mm = (7227, 2540)
ratio Bp = (7227, 7200)
ratio Dd = (1238, 1157)
ratio Cc = (14856, 1157)
ratio Sp = (1, 65536)
ratio Em = (655360, 65536)
ratio Ex = (282168, 65536)
ratio (Own own) = (unsigned_abs own.0, 65536)

-- a whole number and decimals in a unit, without the unit's sign: the greatest number of scaled points whose
-- amount isn't above it. A scaled point has no decimals
abbrev pub amount : ℕ → List ℕ → Unit → ℕ
amount whole ds Sp = whole
amount whole ds unit = (65536 * whole + fraction ds) * (ratio unit).0 / (ratio unit).1

-- an amount with the sign of its unit
abbrev pub turned : Unit → ℕ → ℤ
turned (Own own) n = if int_lt own.0 (pos 0) then neg_ℤ (pos n) else pos n
turned unit n = pos n

-- a whole number and decimals in a unit, in scaled points, unless that is 16384pt or more
abbrev pub measured : ℕ → List ℕ → Unit → Result Scaled NumFault
measured whole ds unit = let n = amount whole ds unit in
    if nat_lt n 1073741824 then Ok (record { 0 = turned unit n }) else Err TooLarge
