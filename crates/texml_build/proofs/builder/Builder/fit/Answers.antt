use Rattle.std.proofs.Common.{arith}
use Rattle.std.proofs.lemmas.List.{length-map, length-reverse}
use Rattle.texml_model.specs.Rules.{rules_of}
use Rattle.texml_build.specs.Held.{held_of, path_of}
use Rattle.texml_build.proofs.Paths.{fit_on}
use Rattle.texml_build.proofs.builder.Builder.fit.Goals as goal

pub loop-n-preserved : goal.loop-n-preserved
loop-n-preserved c = fit_on (rules_of c.args.content.now) (path_of (held_of c.args.self.now)) _ c.loop-n.n c.elem_at-at.result.0 (simp (length-map, length-reverse) (omega arith)) c.elem_at-at.ensures c.in-None.ensures.value c.if-not-closes.ensures c.loop-n.invariant
