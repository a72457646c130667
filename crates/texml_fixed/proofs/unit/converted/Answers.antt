use Rattle.std.proofs.Common.{arith, ◌*◌, ◌/◌, ◌%◌, ◌<◌, ◌≤◌, ◌+◌, sym}
use Rattle.std.proofs.Math.Nat.{div-le_self}
use Rattle.std.proofs.lemmas.Nat.{mod_below, mul-le}
use Rattle.texml_fixed.proofs.Quotients.{converted_in_steps, quotient_bound}
use Rattle.texml_fixed.proofs.unit.converted.Goals as goal

pub overflow_add-result : goal.overflow_add-result
overflow_add-result c =
    let points : c.args.whole * c.args.ratio.0 / c.args.ratio.1 ≤ c.args.whole * 32768 =
    quotient_bound c.args.whole c.args.ratio.0 c.args.ratio.1 32768 c.requires.bounded in
    let rest : c.args.fraction * c.args.ratio.0 ≤ 33554432 * 4294967296 =
    mul-le c.args.fraction c.args.ratio.0 33554432 4294967296 (omega arith) (omega arith) in
    let left : c.args.whole * c.args.ratio.0 % c.args.ratio.1 < c.args.ratio.1 = mod_below (c.args.whole * c.args.ratio.0) c.args.ratio.1 c.requires.low in
    record { fits = omega (arith, div-le_self (c.args.fraction * c.args.ratio.0 + 65536 * (c.args.whole * c.args.ratio.0 % c.args.ratio.1)) c.args.ratio.1) }

pub returns : goal.returns
returns c = sym (converted_in_steps 65536 c.args.whole c.args.fraction c.args.ratio.0 c.args.ratio.1 c.requires.low)
