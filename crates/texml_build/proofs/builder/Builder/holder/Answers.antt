use Rattle.std.proofs.Common.{arith}
use Rattle.std.proofs.lemmas.List.{length-map, length-reverse}
use Rattle.texml_model.specs.Rules.{rules_of}
use Rattle.texml_build.specs.Held.{held_of, path_of}
use Rattle.texml_build.proofs.Paths.{holder_on}
use Rattle.texml_build.proofs.builder.Builder.holder.Goals as goal

pub loop-n-preserved : goal.loop-n-preserved
loop-n-preserved c = holder_on (rules_of c.args.content.now) (path_of (held_of c.args.self.now)) c.args.attr c.loop-n.n c.elem_at-at.result.0 (simp (length-map, length-reverse) (omega arith)) c.elem_at-at.ensures c.if-may_attr.ensures c.loop-n.invariant
