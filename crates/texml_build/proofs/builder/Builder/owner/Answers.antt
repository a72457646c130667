use Rattle.std.proofs.Common.{arith, ◌≡◌}
use Rattle.std.proofs.lemmas.List.{length-map, length-reverse}
use Rattle.texml_model.specs.Rules.{rules_of}
use Rattle.texml_build.specs.Held.{held_of, path_of}
use Rattle.texml_build.proofs.Paths.{owner_found, owner_on, owner_none}
use Rattle.texml_build.proofs.builder.Builder.owner.Goals as goal

pub returns-then-gets_id-clause-value : goal.returns-then-gets_id-clause-value
returns-then-gets_id-clause-value c = owner_found (rules_of c.args.content.now) (path_of (held_of c.args.self.now)) c.loop-n.n c.elem_at-at.result.0 (simp (length-map, length-reverse) (omega arith)) c.elem_at-at.ensures c.if-gets_id.ensures c.loop-n.invariant

pub loop-n-preserved : goal.loop-n-preserved
loop-n-preserved c = owner_on (rules_of c.args.content.now) (path_of (held_of c.args.self.now)) c.loop-n.n c.elem_at-at.result.0 (simp (length-map, length-reverse) (omega arith)) c.elem_at-at.ensures c.if-gets_id.ensures c.loop-n.invariant

pub returns-clause-value : goal.returns-clause-value
returns-clause-value c =
    let last : c.len-count.result ≡ c.loop-n.n = omega arith in
    owner_none (rules_of c.args.content.now) (path_of (held_of c.args.self.now)) c.loop-n.n c.len-count.result last (simp (length-map, length-reverse) (omega arith)) c.loop-n.invariant
