-- What is left of a number, by where a scanner is.
use Rattle.std.specs.Prelude.{ℕ, ℤ, pos, Bool}
use Rattle.texml_scan.specs.declared.int.Place.{Place}
use Rattle.texml_scan.specs.declared.int.Place.TheVariants.{Signs, First, Digits, Quote, Space}
use Rattle.texml_scan.specs.declared.int.IntScan.{IntScan}
use Rattle.texml_scan.specs.Grammar.{Text}
use Rattle.texml_scan.specs.Number.{number_from, first_digit, digits, quoted, one_space, signed}

abbrev pub number_at : Place → Bool → ℕ → Text ℤ
number_at Signs negative value = number_from negative
number_at (First radix) negative value = first_digit negative radix
number_at (Digits radix) negative value = digits negative radix value
number_at Quote negative value = quoted negative
number_at Space negative value = one_space (signed negative (pos value))

abbrev pub number_rest : IntScan → Text ℤ
number_rest s = number_at s.place s.negative s.value
