use Rattle.std.proofs.Common.{sym, subst, List, Result}
use Rattle.texml_tree.specs.declared.ops.Op.{Op}
use Rattle.texml_model.specs.Rules.{rules_of}
use Rattle.texml_build.specs.declared.fault.BuildFault.{BuildFault}
use Rattle.texml_build.specs.Brackets.{steps}
use Rattle.texml_build.specs.Held.{fresh, held_of, Does}
use Rattle.texml_build.proofs.growing.GrowingTree.add.Goals as goal

pub invariant_of-self-in_default : goal.invariant_of-self-in_default
invariant_of-self-in_default c =
    let r = rules_of c.self.inside.content.now in let ops = c.self.inside.done.ops in
    let before = subst (λ (x : Result (Unit {0}) BuildFault). Does r (steps r ops) (fresh r) (held_of c.self.inside.builder) x) (sym c.replace-state.ensures.value) c.self.invariant in
    subst (λ (l : List Op). Does r (steps r l) (fresh r) (held_of c.advance.new.builder) c.advance.result) (sym c.with-self-inside.ensures) (c.advance.ensures.does ops before)
