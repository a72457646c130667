use Rattle.std.proofs.Common.{arith, ℕ, ◌+◌, ◌/◌, ◌-◌}
use Rattle.std.proofs.lemmas.List.{length-map}
use Rattle.texml_fixed.specs.Decimals.{last_digits}
use Rattle.texml_fixed.proofs.Putting.{puts_last_digits, length-last_digits}
use Rattle.texml_fixed.proofs.digits.+put_last_digits.Goals as goal

pub put_byte-requires : goal.put_byte-requires
put_byte-requires t c =
    omega (arith, length-map (last_digits (c.args.count - 1) (c.args.number / 10)) (λ (d : ℕ). 48 + d), length-last_digits (c.args.count - 1) (c.args.number / 10))

pub returns : goal.returns
returns t c = puts_last_digits c.args.count c.args.number c.if-count-eq0.false c.put_last_digits-last.ensures c.put_byte.ensures
