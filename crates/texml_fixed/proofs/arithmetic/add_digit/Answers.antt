use Rattle.std.proofs.Common.{◌≡◌, ◌∙◌, ap, arith, to_z, of_z, ◌+ℤ◌, ◌*ℤ◌, w32, w64}
use Rattle.std.proofs.lemmas.Int.{ints, to_z-of_z}
use Rattle.texml_fixed.specs.declared.fault.NumFault.TheVariants.{TooBig}
use Rattle.texml_fixed.specs.declared.arithmetic.TheConstants.{MAX_NUMBER}
use Rattle.texml_fixed.specs.Arithmetic.{bounded}
use Rattle.texml_fixed.proofs.arithmetic.add_digit.Goals as goal

pub returns-clause-value : goal.returns-clause-value
returns-clause-value c =
    let product : c.product.result ≡ c.args.a *ℤ c.args.radix =
    rw (to_z-of_z w32 c.args.a c.ranges.a, to_z-of_z w32 c.args.radix c.ranges.radix) at c.product.ensures.value in
    let digit : c.from.result ≡ c.args.digit = c.from.ensures ∙ to_z-of_z w32 c.args.digit c.ranges.digit in
    let number : to_z w64 (of_z w64 (to_z w64 (of_z w64 c.product.result) +ℤ to_z w64 (of_z w64 c.from.result))) ≡ c.args.a *ℤ c.args.radix +ℤ c.args.digit =
    omega (arith, ints) in
    c.within.ensures.value ∙ ap (bounded TooBig MAX_NUMBER) number
