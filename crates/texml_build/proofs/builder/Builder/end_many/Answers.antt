use Rattle.std.proofs.Common.{arith}
use Rattle.texml_build.proofs.Follow.{ends_next, ends_done}
use Rattle.texml_build.proofs.builder.Builder.end_many.Goals as goal

pub loop-k-preserved : goal.loop-k-preserved
loop-k-preserved c = record { leads = ends_next _ c.args.n c.loop-k._k _ _ _ _ (omega arith) c.loop-k.invariant.leads c.in_ok-end_one.ensures.does; left = omega (arith, c.in_ok-end_one.ensures.shorter) }

pub returns : goal.returns
returns c = ends_done _ c.args.n c.loop-k._k _ _ _ (omega arith) c.loop-k.invariant.leads
