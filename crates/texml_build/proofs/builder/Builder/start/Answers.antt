use Rattle.std.proofs.Common.{arith, subst, List, ℕ}
use Rattle.std.proofs.lemmas.List.{length-map, length-reverse}
use Rattle.texml_tree.specs.declared.model_fault.TheConstants.{TREE_DEPTH}
use Rattle.texml_model.specs.Rules.{rules_of}
use Rattle.texml_build.specs.Brackets.{fault_of, innermost}
use Rattle.texml_build.specs.Held.{held_of, path_of, Refuses}
use Rattle.texml_build.proofs.Follow.{begun_follows, too_deep}
use Rattle.texml_build.proofs.builder.Builder.start.Goals as goal

pub returns-in-Ok-clause-does : goal.returns-in-Ok-clause-does
returns-in-Ok-clause-does c = begun_follows (rules_of c.args.content.now) _ c.args.elem.0 (held_of c.args.self.now) _ (simp (length-map, length-reverse) (omega arith)) c.in-Ok.ensures.value

pub returns-then-len-ge-DEEPEST-clause-does : goal.returns-then-len-ge-DEEPEST-clause-does
returns-then-len-ge-DEEPEST-clause-does c =
    let named = λ (n : List ℕ). Refuses (fault_of TREE_DEPTH n ((rules_of c.args.content.now).name (innermost (path_of (held_of c.args.self.now))))) c.refuse_child.result in
    too_deep (rules_of c.args.content.now) _ c.args.elem.0 (held_of c.args.self.now) (held_of c.args.self.now) c.refuse_child.result (simp (length-map, length-reverse) (omega arith)) (subst named c.name.ensures c.refuse_child.ensures)
