use Rattle.std.proofs.Common.{arith, rules, zero-add, ◌≡◌, ◌∙◌, ap, subst, List, ℕ, ◌%◌, length, FitsSigned, w32, to_z, of_z, pos, int_lt, unsigned_abs}
use Rattle.std.proofs.lemmas.Int.{to_z-of_z}
use Rattle.texml_fixed.specs.Decimals.{last_digits, fraction}
use Rattle.texml_fixed.specs.Putting.{Puts}
use Rattle.texml_fixed.specs.Printing.{printed, decimals}
use Rattle.texml_fixed.proofs.Putting.{puts_both}
use Rattle.texml_fixed.proofs.Printed.{parts, parts_printed, length-whole, length-sign}
use Rattle.texml_fixed.proofs.ReadsBack.{decimals_read_back}
use Rattle.texml_fixed.proofs.scaled.Scaled.print.Goals as goal

pub put_decimal-point-requires : goal.put_decimal-point-requires
put_decimal-point-requires c =
    omega (arith, length-whole c.unsigned_abs-amount.result (omega arith), length-sign (int_lt (to_z w32 (of_z w32 c.args.self.0)) (pos 0)))

pub put_byte-behind-requires : goal.put_byte-behind-requires
put_byte-behind-requires c =
    omega (arith, length-whole c.unsigned_abs-amount.result (omega arith), length-sign (int_lt (to_z w32 (of_z w32 c.args.self.0)) (pos 0)))

pub put_last_digits-requires : goal.put_last_digits-requires
put_last_digits-requires c =
    omega (arith, length-whole c.unsigned_abs-amount.result (omega arith), length-sign (int_lt (to_z w32 (of_z w32 c.args.self.0)) (pos 0)))

put_all : (c : goal.After-put_last_digits) → Puts c.args.into.now c.put_last_digits.new.into 0 c.put_last_digits.result (printed c.args.self.0)
put_all c =
    let fits : FitsSigned w32 c.args.self.0 = search rules in
    let e : parts (int_lt (to_z w32 (of_z w32 c.args.self.0)) (pos 0)) c.unsigned_abs-amount.result (last_digits c.places-count.result c.to_decimals.result) ≡ printed c.args.self.0 =
    rw (c.to_decimals.ensures, c.places-count.ensures.value, c.unsigned_abs-amount.ensures.value, to_z-of_z w32 c.args.self.0 fits) (parts_printed c.args.self.0) in
    subst (λ (l : List ℕ). Puts c.args.into.now c.put_last_digits.new.into 0 c.put_last_digits.result l) e
    (puts_both (puts_both (puts_both c.put_sign-start.ensures c.put_decimal-point.ensures) c.put_byte-behind.ensures) c.put_last_digits.ensures)

pub returns-clause-text : goal.returns-clause-text
returns-clause-text c = (put_all c).text

pub returns-clause-rest : goal.returns-clause-rest
returns-clause-rest c = (put_all c).rest

pub returns-clause-length : goal.returns-clause-length
returns-clause-length c = (put_all c).end ∙ zero-add (length (printed c.args.self.0))

pub returns-clause-exact : goal.returns-clause-exact
returns-clause-exact c =
    let fits : FitsSigned w32 c.args.self.0 = search rules in
    let amount : c.unsigned_abs-amount.result ≡ unsigned_abs c.args.self.0 = c.unsigned_abs-amount.ensures.value ∙ ap unsigned_abs (to_z-of_z w32 c.args.self.0 fits) in
    let part : ℕ = c.unsigned_abs-amount.result % 65536 in
    subst (λ (a : ℕ). fraction (decimals (a % 65536)) ≡ a % 65536) amount
    (decimals_read_back part c.places-count.result (omega arith) c.places-count.ensures.bound c.places-count.ensures.exact c.places-count.ensures.value)
