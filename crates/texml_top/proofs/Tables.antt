-- The table of elements is a content model, and the page of a tree that was built by it is that of a valid document.
use Rattle.std.proofs.Common.{◌≡◌, ◌≢◌, ◌∙◌, ℕ, ap, List, [], Result, Ok, Err, refl, sym, subst}
use Rattle.texml_base.specs.Outside.{Ink}
use Rattle.texml_tree.specs.declared.table.Elements.{Elements}
use Rattle.texml_tree.specs.declared.ops.Op.{Op}
use Rattle.texml_tree.specs.declared.model_fault.ModelFault.{ModelFault}
use Rattle.texml_tree.specs.Tree.{Tree}
use Rattle.texml_model.specs.Rules.{IsContentModel, rules_of}
use Rattle.texml_model.proofs.Models.{rules_sound, void_is_empty, root_named}
use Rattle.texml_build.specs.Matched.{built}
use Rattle.texml_build.specs.declared.fault.BuildFault.{BuildFault}
use Rattle.texml_build.specs.declared.fault.BuildFault.TheVariants.{Model, NoMemory}
use Rattle.texml_build.specs.Answer.{Builds}
use Rattle.texml_build.specs.Valid.{Valid, IsValid, IsModel}
use Rattle.texml_build.proofs.Lawful.{built_valid}
use Rattle.texml_xref.specs.Refs.{LinkedTree, heads, linked}
use Rattle.texml_html.specs.Html.{AllKnown, html}
use Rattle.texml_html.proofs.Known.{valid_is_known}
use Rattle.texml_top.specs.Table.{line_by, elements, rules, AreNamed}
use Rattle.texml_top.specs.Document.{page_of, page_by, document, IsPage}
use Rattle.texml_top.specs.Run.{unbuilt, EndsPage}
use Rattle.texml_top.proofs.References.{cross_referenced}

pub table_is_model : IsContentModel elements
unfolding elements line_by
table_is_model = record { names = refl; root = refl; held = refl; attributes = refl; attrs = refl; void = refl }

pub is_model : (table : Elements) → table ≡ elements → IsContentModel table
is_model table h = subst IsContentModel (sym h) table_is_model

-- the elements that digestion opens and closes have their names
pub are_named : AreNamed
unfolding elements line_by rules_of
are_named = record { paragraph = refl; break = refl; code = refl }

table_model : IsModel rules
table_model = record { sound = rules_sound elements; void = void_is_empty elements table_is_model; root = root_named elements table_is_model }

page_is : (r : Result Tree ModelFault) (bytes : List ℕ) → IsValid rules r → page_by r ≡ Ok bytes → IsPage bytes
page_is (Ok tree) bytes valid e = record { tree = tree; valid = valid; referenced = cross_referenced (linked rules tree); is = cc }
page_is (Err f) bytes valid e = absurd (cc)

pub document_page : (ops : List Op) (bytes : List ℕ) → document ops ≡ Ok bytes → IsPage bytes
unfolding document
document_page ops bytes e = page_is (built rules ops) bytes (built_valid rules table_model ops) e

-- a page has bytes
page_some : (tree : Tree) → page_of tree ≢ []
unfolding page_of
page_some tree = λ none. cc

pub document_some : (ops : List Op) (bytes : List ℕ) → document ops ≡ Ok bytes → bytes ≢ []
document_some ops bytes e = let page = document_page ops bytes e in λ none. page_some page.tree (sym page.is ∙ none)

-- the page of a tree that was built and linked
pub document_is : (table : Elements) (ops : List Op) (tree : Tree) (l : LinkedTree) → table ≡ elements → built rules ops ≡ Ok tree → l ≡ linked (rules_of table) tree → document ops ≡ Ok (html (rules_of table) l)
unfolding document page_of
document_is table ops tree l e b h =
    let P : Elements → Type 0 = λ t. l ≡ linked (rules_of t) tree → document ops ≡ Ok (html (rules_of t) l) in
    subst P (sym e) (λ h. ap page_by b ∙ ap (λ x. Ok (html rules x)) (sym h)) h

-- or of one that couldn't be built
pub document_fails : (ops : List Op) (f : BuildFault) (ink : Ink) → Builds (built rules ops) (Err f) → EndsPage (unbuilt f) (document ops) ink ink
unfolding document
document_fails ops (Model f) ink b = (ap page_by b, refl)
document_fails ops NoMemory ink b = refl

pub linked_known : (table : Elements) (tree : Tree) (l : LinkedTree) → table ≡ elements → Valid rules tree → l ≡ linked (rules_of table) tree → AllKnown (rules_of table) (heads l.tree)
linked_known table tree l e valid h =
    subst (λ (t : Tree). AllKnown (rules_of table) (heads t)) (sym (ap (λ x. x.tree) h)) (valid_is_known table tree (subst (λ (t : Elements). Valid (rules_of t) tree) (sym e) valid))
