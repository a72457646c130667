use Rattle.std.proofs.Common.{rules, ◌≡◌, ◌≤◌, ◌<◌, ℕ, true, List, length, Some, None, Ok, Err, arith}
use Rattle.std.proofs.lemmas.Bool.Decides.{nat_tests}
use Rattle.std.proofs.lemmas.Str.Parse.{IsNumeralModel, numerals_by_value, digits_value_short, parse_digits}
use Rattle.std.specs.Char.{is_ascii_digit}
use Rattle.std.specs.declared.num.ParseIntError.{ParseIntError}
use Rattle.std.specs.List.{list_all}
use Rattle.std.specs.Str.Parse.{digits_value}
use Rattle.texml_top.specs.Request.{limit_of}
use Rattle.texml_top.proofs.request.read_limit.Goals as goal

numerals : IsNumeralModel (λ ds. list_all is_ascii_digit ds ≡ true) (digits_value 10)
numerals = numerals_by_value _ (search rules)

module _ (word : List ℕ) (all : list_all is_ascii_digit word ≡ true) (short : length word ≤ 10) where
  taken : (n : ℕ) → 0 < length word → n ≡ digits_value 10 word → 1 ≤ n → n ≤ 1000000000 → Some n ≡ limit_of word
  taken n some e low high = grind (arith, nat_tests)

  refused : length word ≡ 0 → None ≡ limit_of word
  refused e = grind (arith, nat_tests)

pub returns-in-Ok : goal.returns-in-Ok
returns-in-Ok c =
    let word = c.args.word.now in
    let all : list_all is_ascii_digit word ≡ true = search rules in
    let is = parse_digits numerals {E = ParseIntError} 64 word (Ok c.in-Ok.limit) c.in-Ok.ensures.value.0 all in
    taken word all (omega arith) c.in-Ok.limit is.0.0 is.1 (omega arith) (omega arith)

pub returns-in_default-3 : goal.returns-in_default-3
returns-in_default-3 c =
    let word = c.args.word.now in
    let all : list_all is_ascii_digit word ≡ true = search rules in
    let is = parse_digits numerals 64 word (Err c.in_default.field-0) c.in_default.ensures.value.0 all in
    let small = digits_value_short numerals word 10 all (omega arith) in
    refused word all (omega arith) (grind (arith, is))
