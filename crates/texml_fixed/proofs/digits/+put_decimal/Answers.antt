use Rattle.std.proofs.Common.{arith, rules, sym, subst, length, ap, List, ℕ}
use Rattle.std.proofs.lemmas.Fmt.{decimal_digit}
use Rattle.texml_fixed.specs.Putting.{Puts}
use Rattle.texml_fixed.proofs.Putting.{puts_decimal, length-decimal_step}
use Rattle.texml_fixed.proofs.digits.+put_decimal.Goals as goal

pub put_byte-requires : goal.put_byte-requires
put_byte-requires t c = omega (arith, ap length (decimal_digit c.args.number c.if-number-lt10.true))

pub returns-then-number-lt10 : goal.returns-then-number-lt10
returns-then-number-lt10 t c =
    subst (λ (l : List ℕ). Puts c.args.into.now c.put_byte.new.into c.args.at c.put_byte.result l)
    (sym (decimal_digit c.args.number c.if-number-lt10.true)) c.put_byte.ensures

pub put_decimal-last-requires : goal.put_decimal-last-requires
put_decimal-last-requires t c =
    (search rules, omega (arith, length-decimal_step c.args.number c.if-number-lt10.false c.ranges.number.fits))

pub put_byte-requires-2 : goal.put_byte-requires-2
put_byte-requires-2 t c = omega (arith, length-decimal_step c.args.number c.if-number-lt10.false c.ranges.number.fits)

pub returns : goal.returns
returns t c = puts_decimal c.args.number c.if-number-lt10.false c.ranges.number.fits c.put_decimal-last.ensures c.put_byte-2.ensures
