-- Ids, labels and references of a tree: which element has which id, who owns a label, and where a reference leads.
use Rattle.std.specs.Prelude.{ℕ, ◌+◌, Bool, false, List, [], ◌∷◌, ◌++◌, length, map, filter, find, reverse, Option, None, nat_eq, unwrap_or, codes}
use Rattle.std.specs.Option.{option_map, option_map_or, option_or, option_and_then}
use Rattle.std.specs.List.{slice_get}
use Rattle.std.specs.Fmt.{decimal}
use Rattle.texml_token.specs.Token.{text_eq}
use Rattle.texml_tree.specs.Tree.{Mark, Head, Tree, Trees, text, element, none, more}
use Rattle.texml_model.specs.Rules.{Rules}

-- all elements of a tree, each before those inside it
abbrev mutual
  pub heads : Tree → List Head
  heads (text t) = []
  heads (element h kids) = h ∷ heads_in kids

  pub heads_in : Trees → List Head
  heads_in none = []
  heads_in (more t ts) = heads t ++ heads_in ts

-- the elements that get ids; the id of each is made of its place among them
abbrev pub identified : List Head → List Head
identified = filter (λ h. h.identified)

abbrev pub id_of : ℕ → List ℕ
id_of place = 120 ∷ decimal place

-- where a reference leads: to the owner of its label, by the owner's place, and with the number of the label there
pub record Link : Type 0 where
  pub owner : ℕ
  pub number : List ℕ

-- of an element's marks with this label the last
abbrev pub mark_of : List ℕ → List Mark → Option Mark
mark_of label marks = find (λ m. text_eq m.label label) (reverse marks)

abbrev pub link_to : ℕ → List ℕ → List Mark → Option Link
link_to place label marks = option_map (λ m. record { owner = place; number = m.number }) (mark_of label marks)

-- the last of these elements that has the label owns it; the first of them has this place
abbrev pub owner_from : ℕ → List Head → List ℕ → Option Link
owner_from place [] label = None
owner_from place (h ∷ hs) label = option_or (owner_from (place + 1) hs label) (link_to place label h.marks)

abbrev pub owner_in : List Head → List ℕ → Option Link
owner_in hs label = owner_from 0 (identified hs) label

-- an element without a label leads nowhere, and so does one whose label has no owner
abbrev pub link_in : List Head → Head → Option Link
link_in hs h = option_and_then (owner_in hs) h.target

-- the elements that have a place in the table, if it is there
abbrev pub is_placed : Option ℕ → Head → Bool
is_placed place h = option_map_or (λ e. nat_eq h.elem e) place false

abbrev pub placed : Option ℕ → List Head → List Head
placed place = filter (is_placed place)

-- A tree that is linked: which elements are references, and how many are sections.
pub record LinkedTree : Type 0 where
  pub tree : Tree
  pub reference : Option ℕ
  pub sections : ℕ

abbrev pub elements_of : LinkedTree → List Head
elements_of l = heads l.tree

-- how many elements have ids
abbrev pub ids_in : LinkedTree → ℕ
ids_in l = length (identified (elements_of l))

-- where each reference leads, in document order
abbrev pub links_in : LinkedTree → List (Option Link)
links_in l = map (link_in (elements_of l)) (placed l.reference (elements_of l))

abbrev pub link_at : LinkedTree → ℕ → Option Link
link_at l place = unwrap_or (slice_get (links_in l) place) None

-- the linked tree of a tree
abbrev pub linked : Rules → Tree → LinkedTree
linked r t = record {
  tree = t;
  reference = r.named (codes "ref");
  sections = length (placed (r.named (codes "section")) (heads t));
}
