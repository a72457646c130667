use Rattle.std.proofs.Common.{◌≡◌, ◌∙◌, ap, to_z, of_z, int_div, w32, w64}
use Rattle.std.proofs.lemmas.Int.{to_z-of_z}
use Rattle.texml_fixed.specs.declared.fault.NumFault.TheVariants.{Overflow}
use Rattle.texml_fixed.specs.declared.arithmetic.TheConstants.{MAX_NUMBER}
use Rattle.texml_fixed.specs.Arithmetic.{bounded}
use Rattle.texml_fixed.proofs.Signed.{divided_nonzero, quotient_fits}
use Rattle.texml_fixed.proofs.arithmetic.over.Goals as goal

pub returns-clause-value : goal.returns-clause-value
returns-clause-value c =
    let first : to_z w64 (of_z w64 c.from.result) ≡ c.args.a =
    to_z-of_z w64 c.from.result (record { sfits = c.from.type_inv }) ∙ c.from.ensures ∙ to_z-of_z w32 c.args.a c.ranges.a in
    let second : to_z w64 (of_z w64 c.from-2.result) ≡ c.args.n =
    to_z-of_z w64 c.from-2.result (record { sfits = c.from-2.type_inv }) ∙ c.from-2.ensures ∙ to_z-of_z w32 c.args.n c.ranges.n in
    let quotient : to_z w64 (of_z w64 (int_div (to_z w64 (of_z w64 c.from.result)) (to_z w64 (of_z w64 c.from-2.result)))) ≡ int_div c.args.a c.args.n =
    rw (first, second) (to_z-of_z w64 (int_div c.args.a c.args.n) (quotient_fits c.args.a c.args.n c.ranges.a)) in
    rw (divided_nonzero c.args.a c.args.n c.if-n-eq0.false) (c.within.ensures.value ∙ ap (bounded Overflow MAX_NUMBER) quotient)
