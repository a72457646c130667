use Rattle.std.proofs.Common.{◌≡◌, ◌∙◌, ◌≤◌, ◌*ℤ◌, FitsSigned, to_z, of_z, w32, w64, unsigned_abs, lit<}
use Rattle.std.proofs.lemmas.Int.{fits_signed_mul, to_z-of_z, unsigned_abs-mul}
use Rattle.std.specs.Int.Signed.{nat_abs-le}
use Rattle.std.proofs.lemmas.Nat.{mul-le}
use Rattle.texml_fixed.proofs.arithmetic.product.Goals as goal

pub returns : goal.returns
returns c =
    let a : unsigned_abs c.args.a ≤ 2147483648 = nat_abs-le c.args.a c.ranges.a.sfits in
    let b : unsigned_abs c.args.b ≤ 2147483648 = nat_abs-le c.args.b c.ranges.b.sfits in
    let fits : FitsSigned w64 (c.args.a *ℤ c.args.b) = fits_signed_mul w64 c.args.a c.args.b 2147483648 2147483648 a b (lit< tt) in
    let first : to_z w64 (of_z w64 c.from.result) ≡ c.args.a =
    to_z-of_z w64 c.from.result (record { sfits = c.from.type_inv }) ∙ c.from.ensures ∙ to_z-of_z w32 c.args.a c.ranges.a in
    let second : to_z w64 (of_z w64 c.from-2.result) ≡ c.args.b =
    to_z-of_z w64 c.from-2.result (record { sfits = c.from-2.type_inv }) ∙ c.from-2.ensures ∙ to_z-of_z w32 c.args.b c.ranges.b in
    record {
      value = rw (first, second) (to_z-of_z w64 (c.args.a *ℤ c.args.b) fits);
      bound = rw (first, second, to_z-of_z w64 (c.args.a *ℤ c.args.b) fits, unsigned_abs-mul c.args.a c.args.b) (mul-le (unsigned_abs c.args.a) (unsigned_abs c.args.b) 2147483648 2147483648 a b);
    }
