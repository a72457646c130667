-- What a linked tree is, however its references were linked: ids are distinct, and each reference leads to the last element that has
-- its label, with the number of the last such label there, or is undefined where no element has it.
use Rattle.std.specs.Prelude.{◌≡◌, ◌≢◌, ◌<◌, ◌^◌, ℕ, List, ◌∷◌, ◌++◌, length, Option, Some, None}
use Rattle.std.specs.List.{All, slice_get}
use Rattle.texml_tree.specs.Tree.{Mark, Head}
use Rattle.texml_xref.specs.Refs.{Link, LinkedTree, identified, id_of, placed, elements_of, link_at}

-- none of these marks has the label
abbrev pub AllOther : List ℕ → List Mark → Type 0
AllOther label marks = All (λ (m : Mark). m.label ≢ label) marks

-- of these marks the last with the label has this number
pub record IsLastMark (label number : List ℕ) (marks : List Mark) : Type 0 where
  pub before : List Mark
  pub behind : List Mark
  pub split : marks ≡ before ++ record { label = label; number = number } ∷ behind
  pub last : AllOther label behind

-- of these elements the last with the label is the link's
pub record IsOwner (label : List ℕ) (link : Link) (hs : List Head) : Type 0 where
  pub before : List Head
  pub owner : Head
  pub behind : List Head
  pub split : hs ≡ before ++ owner ∷ behind
  pub place : link.owner ≡ length before
  pub mark : IsLastMark label link.number owner.marks
  pub last : All (λ (h : Head). AllOther label h.marks) behind

abbrev pub LeadsTo : List ℕ → List Head → Option Link → Type 0
LeadsTo label hs None = All (λ (h : Head). AllOther label h.marks) hs
LeadsTo label hs (Some link) = IsOwner label link hs

-- a reference without a label is undefined
abbrev pub IsLinked : Option (List ℕ) → List Head → Option Link → Type 0
IsLinked None hs link = link ≡ None
IsLinked (Some label) hs link = LeadsTo label hs link

pub record IsCrossReferenced (l : LinkedTree) : Type 0 where
  pub ids : (a b : ℕ) → a < 2 ^ 64 → b < 2 ^ 64 → id_of a ≡ id_of b → a ≡ b
  pub links : (at : ℕ) (h : Head) → slice_get (placed l.reference (elements_of l)) at ≡ Some h → IsLinked h.target (identified (elements_of l)) (link_at l at)
