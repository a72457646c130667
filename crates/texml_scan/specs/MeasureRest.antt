-- What is left of a dimension, by where a scanner is.
use Rattle.std.specs.Prelude.{take, Bool, codes}
use Rattle.texml_scan.specs.declared.measure.Spot.{Spot}
use Rattle.texml_scan.specs.declared.measure.Spot.TheVariants as spot
use Rattle.texml_scan.specs.declared.measure.Measuring.{Measuring}
use Rattle.texml_scan.specs.declared.measure.DimenScan.{DimenScan}
use Rattle.texml_fixed.specs.declared.scaled.Scaled.{Scaled}
use Rattle.texml_scan.specs.declared.int.IntScan.{IntScan}
use Rattle.texml_fixed.specs.declared.glue.Order.TheVariants.{Pt}
use Rattle.texml_fixed.specs.declared.glue.Amount.{Amount}
use Rattle.texml_scan.specs.Grammar.{Text, ◌>>=◌}
use Rattle.texml_scan.specs.Number.{one_space}
use Rattle.texml_scan.specs.IntRest.{number_rest}
use Rattle.texml_scan.specs.Measure.{Measure, measure_from, decimal, factor, fraction, units, true_unit, second, exactly, filled, fils, amount, with_width}

abbrev pub measure_of : Measuring → Measure
measure_of s = record { fil = s.fil; negative = s.negative; whole = s.whole; decimals = take s.count s.decimals }

abbrev pub number_left : IntScan → Bool → Bool → Text Amount
number_left inner fil negative = number_rest inner >>= factor fil negative

abbrev pub fil_left : Measure → Text Amount
fil_left m = exactly (codes "l") (filled m)

abbrev pub measuring_at : Spot → Measure → Scaled → Text Amount
measuring_at spot.Signs m value = measure_from m.fil m.negative
measuring_at spot.Decimal m value = decimal m.fil m.negative m.whole
measuring_at (spot.Number inner) m value = number_left inner m.fil m.negative
measuring_at spot.Fraction m value = fraction m.fil m.negative m.whole m.decimals
measuring_at spot.Units m value = units m
measuring_at spot.TrueUnits m value = true_unit m
measuring_at (spot.Second c) m value = second m c
measuring_at spot.True1 m value = exactly (codes "rue") (true_unit m)
measuring_at spot.True2 m value = exactly (codes "ue") (true_unit m)
measuring_at spot.True3 m value = exactly (codes "e") (true_unit m)
measuring_at spot.Fil1 m value = exactly (codes "il") (filled m)
measuring_at spot.Fil2 m value = fil_left m
measuring_at (spot.Fils o) m value = fils value o
measuring_at spot.Space m value = one_space (amount value Pt)

abbrev pub measuring_rest : Measuring → Text Amount
measuring_rest s = measuring_at s.spot (measure_of s) s.value

abbrev pub dimen_rest : DimenScan → Text Scaled
dimen_rest s more = with_width (measuring_rest s.inner more)
