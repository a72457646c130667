-- What the code holds while it goes through a tree. The page itself is specs/Html.antt.
use Rattle.std.specs.Prelude.{◌+◌, ◌≤◌, List, length}
use Rattle.texml_tree.specs.Tree.{Head}
use Rattle.texml_model.specs.Rules.{Rules, rules_of}
use Rattle.texml_xref.specs.Refs.{LinkedTree, identified, placed, ids_in, links_in}
use Rattle.texml_xref.specs.Linked.{linked_of}
use Rattle.texml_html.specs.declared.places.Places.{Places as PlacesCode}
use Rattle.texml_html.specs.declared.page.Page.{Page}
use Rattle.texml_html.specs.Html.{Places, AllKnown}

abbrev pub places_of : PlacesCode → Places
places_of p = record { ids = p.ids; references = p.references }

abbrev pub rules_in : Page → Rules
rules_in p = rules_of p.content.now

abbrev pub linked_in : Page → LinkedTree
linked_in p = linked_of p.linked.now

-- these elements of the tree come next
pub record Ahead (r : Rules) (l : LinkedTree) (at : Places) (hs : List Head) : Type 0 where
  pub known : AllKnown r hs
  pub ids : at.ids + length (identified hs) ≤ ids_in l
  pub references : at.references + length (placed l.reference hs) ≤ length (links_in l)
