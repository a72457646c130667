use Rattle.std.proofs.Common.{subst, Result, IfOk}
use Rattle.texml_tree.specs.Plain.{tree_of}
use Rattle.texml_model.specs.Rules.{rules_of}
use Rattle.texml_build.specs.declared.fault.BuildFault.{BuildFault}
use Rattle.texml_build.specs.Answer.{Builds}
use Rattle.texml_build.specs.Brackets.{steps}
use Rattle.texml_build.specs.Growing.{Growing}
use Rattle.texml_build.specs.Held.{fresh, held_of, Does}
use Rattle.texml_build.specs.Matched.{built}
use Rattle.texml_build.specs.Valid.{Valid}
use Rattle.texml_build.proofs.Lawful.{valid_result}
use Rattle.texml_build.proofs.growing.GrowingTree.finish.Goals as goal

pub returns-in-Ok-clause-value : goal.returns-in-Ok-clause-value
returns-in-Ok-clause-value c =
    let r = rules_of c.self.inside.content.now in let ops = c.self.inside.done.ops in
    let before = subst (λ (x : Result (Unit {0}) BuildFault). Does r (steps r ops) (fresh r) (held_of c.self.inside.builder) x) c.in-Ok.is c.self.invariant in
    subst (λ (g : Growing). Builds (built (rules_of g.table) g.ops) c.close_all.result) c.self.view_is (c.close_all.ensures.value ops before)

pub returns-in-Ok-clause-valid : goal.returns-in-Ok-clause-valid
returns-in-Ok-clause-valid c =
    let r = rules_of c.self.inside.content.now in let ops = c.self.inside.done.ops in
    let before = subst (λ (x : Result (Unit {0}) BuildFault). Does r (steps r ops) (fresh r) (held_of c.self.inside.builder) x) c.in-Ok.is c.self.invariant in
    subst (λ (g : Growing). IfOk c.close_all.result (λ tree. Valid (rules_of g.table) (tree_of tree))) c.self.view_is
    (valid_result c.self.inside.content.now ops c.close_all.result c.close_all.ensures.model (c.close_all.ensures.value ops before))
