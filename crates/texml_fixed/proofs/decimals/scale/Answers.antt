use Rattle.std.proofs.Common.{arith, lit<}
use Rattle.std.proofs.Math.Nat.{one-le-pow}
use Rattle.texml_fixed.proofs.decimals.scale.Goals as goal

pub returns-clause-some : goal.returns-clause-some
returns-clause-some c = omega (arith, one-le-pow c.args.place 10 (lit< tt))
