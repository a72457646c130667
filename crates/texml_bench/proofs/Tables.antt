-- The table is a content model, which has each element of a tree that was built by it.
use Rattle.std.proofs.Common.{◌≡◌, refl, ap, sym, subst}
use Rattle.texml_tree.specs.declared.table.Elements.{Elements}
use Rattle.texml_tree.specs.Tree.{Tree}
use Rattle.texml_model.specs.Rules.{IsContentModel, rules_of}
use Rattle.texml_build.specs.Valid.{Valid}
use Rattle.texml_xref.specs.Refs.{LinkedTree, heads, linked}
use Rattle.texml_html.specs.Html.{AllKnown}
use Rattle.texml_html.proofs.Known.{valid_is_known}
use Rattle.texml_bench.specs.Table.{table}

table_is_model : IsContentModel table
table_is_model = record { names = refl; root = refl; held = refl; attributes = refl; attrs = refl; void = refl }

pub is_model : (elements : Elements) → elements ≡ table → IsContentModel elements
is_model elements h = subst IsContentModel (sym h) table_is_model

pub linked_known : (elements : Elements) (tree : Tree) (l : LinkedTree) → Valid (rules_of elements) tree → l ≡ linked (rules_of elements) tree → AllKnown (rules_of elements) (heads l.tree)
linked_known elements tree l valid h = subst (λ (t : Tree). AllKnown (rules_of elements) (heads t)) (sym (ap (λ x. x.tree) h)) (valid_is_known elements tree valid)
