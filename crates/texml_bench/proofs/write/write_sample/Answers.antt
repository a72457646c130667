use Rattle.std.proofs.Common.{◌∙◌, ap, subst}
use Rattle.texml_tree.specs.declared.table.Elements.{Elements}
use Rattle.texml_tree.specs.Plain.{tree_of}
use Rattle.texml_model.specs.Rules.{rules_of}
use Rattle.texml_build.specs.Valid.{Valid}
use Rattle.texml_xref.specs.Linked.{linked_of}
use Rattle.texml_bench.proofs.Tables.{linked_known}
use Rattle.texml_bench.proofs.write.write_sample.Goals as goal

pub write-requires-clause-known : goal.write-requires-clause-known
write-requires-clause-known g c =
    let tree = tree_of c.in-Ok-finish.tree in
    linked_known c.in-Ok.content tree (linked_of c.in-Ok-resolve.linked)
    (subst (λ (t : Elements). Valid (rules_of t) tree) (c.in-Ok-add_all.ensures ∙ ap (λ x. x.table) c.new-tree.ensures) c.in-Ok-finish.ensures.valid)
    c.in-Ok-resolve.ensures
