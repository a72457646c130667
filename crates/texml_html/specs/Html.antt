-- The HTML of a linked tree.
use Rattle.std.specs.Prelude.{ℕ, ◌+◌, ◌<◌, ◌==◌, Bool, ◌&&◌, not, List, [], ◌∷◌, ◌++◌, length, Option, None, Some, if◌then◌else◌, codes}
use Rattle.std.specs.Option.{option_map_or, option_or}
use Rattle.std.specs.List.{flat_map, All}
use Rattle.texml_token.specs.Token.{text_eq}
use Rattle.texml_tree.specs.Tree.{Head, Tree, Trees, text, element, none, more, value_of}
use Rattle.texml_model.specs.Rules.{Rules}
use Rattle.texml_xref.specs.Refs.{Link, LinkedTree, heads, identified, placed, is_placed, id_of, link_at}
use Rattle.texml_html.specs.declared.escape.Inside.{Inside}
use Rattle.texml_html.specs.declared.escape.Inside.TheVariants.{Text, Attribute}

-- Escapes, byte by byte.

abbrev pub byte_in : Inside → ℕ → List ℕ
byte_in Text b =
    if b == 38 then codes "&amp;"
    else if b == 60 then codes "&lt;"
    else if b == 62 then codes "&gt;"
    else b ∷ []
byte_in Attribute b =
    if b == 38 then codes "&amp;"
    else if b == 34 then codes "&quot;"
    else if b == 60 then codes "&lt;"
    else b ∷ []

abbrev pub escaped : Inside → List ℕ → List ℕ
escaped inside = flat_map (byte_in inside)

-- What a tree has.

-- all texts in a tree, joined
abbrev mutual
  pub texts : Tree → List ℕ
  texts (text t) = t
  texts (element h kids) = texts_in kids

  pub texts_in : Trees → List ℕ
  texts_in none = []
  texts_in (more t ts) = texts t ++ texts_in ts

-- the first element in document order that has this place in the table
abbrev mutual
  pub first_placed : Option ℕ → Tree → Option Tree
  first_placed place (text t) = None
  first_placed place (element h kids) = if is_placed place h then Some (element h kids) else first_placed_in place kids

  pub first_placed_in : Option ℕ → Trees → Option Tree
  first_placed_in place none = None
  first_placed_in place (more t ts) = option_or (first_placed place t) (first_placed_in place ts)

-- the first of some nodes that is an element
abbrev pub first_element : Trees → Option Tree
first_element none = None
first_element (more (text t) ts) = first_element ts
first_element (more (element h kids) ts) = Some (element h kids)

-- the texts of a tree that may be missing
abbrev pub texts_or_none : Option Tree → List ℕ
texts_or_none t = option_map_or texts t []

-- Where the page is: how many elements with ids, and how many references, stand before.

pub record Places : Type 0 where
  pub ids : ℕ
  pub references : ℕ

abbrev pub first_places : Places
first_places = record { ids = 0; references = 0 }

-- behind these elements
abbrev pub behind : LinkedTree → Places → List Head → Places
behind l at hs = record {
  ids = at.ids + length (identified hs);
  references = at.references + length (placed l.reference hs);
}

-- Tags.

abbrev pub attribute : List ℕ → List ℕ → List ℕ
attribute name value = codes " " ++ name ++ codes "=\"" ++ escaped Attribute value ++ codes "\""

abbrev pub class : Option (List ℕ) → List ℕ
class c = option_map_or (attribute (codes "class")) c []

abbrev pub id : Places → Head → List ℕ
id at h = if h.identified then codes " id=\"" ++ id_of at.ids ++ codes "\"" else []

-- an attribute of the table, where it is set; `number` is never written
abbrev pub if_set : List ℕ → Option (List ℕ) → List ℕ
if_set name None = []
if_set name (Some value) = if text_eq name (codes "number") then [] else attribute name value

abbrev pub set_attribute : Rules → Head → ℕ → List ℕ
set_attribute r h a = if_set (r.attr_name a) (value_of a h.sets)

abbrev pub start_tag : Rules → Places → Head → List ℕ
start_tag r at h = codes "<" ++ r.tag h.elem ++ class (r.class h.elem) ++ id at h ++ flat_map (set_attribute r h) (r.attrs h.elem) ++ codes ">"

abbrev pub end_tag : Rules → Head → List ℕ
end_tag r h = codes "</" ++ r.tag h.elem ++ codes ">"

-- References.

-- the start tag of a link to the element with this id
abbrev pub link_start : List ℕ → List ℕ
link_start id = codes "<a href=\"#" ++ id ++ codes "\">"

abbrev pub link : List ℕ → List ℕ → List ℕ
link id number = link_start id ++ escaped Text number ++ codes "</a>"

abbrev pub reference : Option Link → List ℕ
reference None = codes "<span class=\"undefined\">??</span>"
reference (Some l) = link (id_of l.owner) l.number

-- The contents: an entry for each element that is flagged for it and has an id, with the texts under its first child element.

abbrev pub entry : Rules → Places → Head → Trees → List ℕ
entry r at h kids =
    if r.toc h.elem && h.identified then codes "<li>" ++ link_start (id_of at.ids) ++ escaped Text (texts_or_none (first_element kids)) ++ codes "</a></li>"
    else []

abbrev mutual
  pub entries : Rules → LinkedTree → Places → Tree → List ℕ
  entries r l at (text t) = []
  entries r l at (element h kids) = entry r at h kids ++ entries_in r l (behind l at (h ∷ [])) kids

  pub entries_in : Rules → LinkedTree → Places → Trees → List ℕ
  entries_in r l at none = []
  entries_in r l at (more t ts) = entries r l at t ++ entries_in r l (behind l at (heads t)) ts

abbrev pub contents : Rules → LinkedTree → List ℕ
contents r l = codes "<ul class=\"toc\">" ++ entries r l first_places l.tree ++ codes "</ul>"

-- Elements with what is in them.

abbrev pub is_contents : Rules → Head → Bool
is_contents r h = is_placed (r.named (codes "toc")) h

-- references, the contents and void elements are written without their children
abbrev pub has_inside : Rules → LinkedTree → Head → Bool
has_inside r l h = not (is_placed l.reference h) && not (is_contents r h) && not (r.void h.elem)

-- what is written before the children
abbrev pub opening : Rules → LinkedTree → Places → Head → List ℕ
opening r l at h =
    if is_placed l.reference h then reference (link_at l at.references)
    else if is_contents r h then contents r l
    else start_tag r at h

abbrev mutual
  pub node : Rules → LinkedTree → Places → Tree → List ℕ
  node r l at (text t) = escaped Text t
  node r l at (element h kids) =
      opening r l at h ++ (if has_inside r l h then nodes r l (behind l at (h ∷ [])) kids ++ end_tag r h else [])

  pub nodes : Rules → LinkedTree → Places → Trees → List ℕ
  nodes r l at none = []
  nodes r l at (more t ts) = node r l at t ++ nodes r l (behind l at (heads t)) ts

-- The page.

abbrev pub untitled_if_empty : List ℕ → List ℕ
untitled_if_empty [] = codes "untitled"
untitled_if_empty (b ∷ bs) = b ∷ bs

-- all texts in the first element named `title`
abbrev pub title : Rules → LinkedTree → List ℕ
title r l = untitled_if_empty (texts_or_none (first_placed (r.named (codes "title")) l.tree))

-- the table has these elements
abbrev pub AllKnown : Rules → List Head → Type 0
AllKnown r hs = All (λ h. h.elem < r.size) hs

abbrev pub html : Rules → LinkedTree → List ℕ
html r l =
    codes "<!DOCTYPE html>\n<html><head><meta charset=\"utf-8\"><title>" ++ escaped Text (title r l)
    ++ codes "</title></head><body>" ++ node r l first_places l.tree ++ codes "</body></html>\n"
