use Rattle.std.proofs.Common.{arith}
use Rattle.std.proofs.lemmas.List.{length-map, length-reverse}
use Rattle.texml_model.specs.Rules.{rules_of}
use Rattle.texml_build.specs.Held.{held_of, path_of}
use Rattle.texml_build.proofs.Paths.{depth_found, depth_stops, depth_on, depth_none}
use Rattle.texml_build.proofs.builder.Builder.depth.Goals as goal

pub returns-then-at-elem-clause-value : goal.returns-then-at-elem-clause-value
returns-then-at-elem-clause-value c = depth_found (rules_of c.args.content.now) (path_of (held_of c.args.self.now)) c.args.elem.0 c.loop-n.n c.elem_at-at.result.0 (simp (length-map, length-reverse) (omega arith)) c.elem_at-at.ensures c.if-at-elem.true c.loop-n.invariant

pub returns-then-not-closes-clause-value : goal.returns-then-not-closes-clause-value
returns-then-not-closes-clause-value c = depth_stops (rules_of c.args.content.now) (path_of (held_of c.args.self.now)) c.args.elem.0 c.loop-n.n c.elem_at-at.result.0 (simp (length-map, length-reverse) (omega arith)) c.elem_at-at.ensures c.if-at-elem.false c.if-not-closes.ensures c.loop-n.invariant

pub loop-n-preserved : goal.loop-n-preserved
loop-n-preserved c = depth_on (rules_of c.args.content.now) (path_of (held_of c.args.self.now)) c.args.elem.0 c.loop-n.n c.elem_at-at.result.0 (simp (length-map, length-reverse) (omega arith)) c.elem_at-at.ensures c.if-at-elem.false c.if-not-closes.ensures c.loop-n.invariant

pub returns-clause-value : goal.returns-clause-value
returns-clause-value c = depth_none (rules_of c.args.content.now) (path_of (held_of c.args.self.now)) c.args.elem.0 c.loop-n.n (simp (length-map, length-reverse) (omega arith)) c.loop-n.invariant
