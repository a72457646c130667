-- A document's tree as plain data: texts, and elements with attributes, labels and children.
use Rattle.std.specs.Prelude.{ℕ, ◌==◌, Bool, false, List, [], ◌∷◌, reverse, find, Option, Some, None}
use Rattle.std.specs.Option.{option_map}

-- an attribute that is set: its number in the table, and its value
pub record Set : Type 0 where
  pub number : ℕ
  pub value : List ℕ

-- a label, with the number that references to it show
pub record Mark : Type 0 where
  pub label : List ℕ
  pub number : List ℕ

-- what an element is, beside its children: its place in the table, whether it gets an id, the label of the reference
-- that started it, and all attributes and labels that were given to it, in that order
pub record Head : Type 0 where
  pub elem : ℕ
  pub identified : Bool
  pub target : Option (List ℕ)
  pub sets : List Set
  pub marks : List Mark

mutual
  pub data Tree : Type 0 where
    text : List ℕ → Tree
    element : Head → Trees → Tree

  pub data Trees : Type 0 where
    none : Trees
    more : Tree → Trees → Trees

abbrev pub trees : List Tree → Trees
trees [] = none
trees (t ∷ ts) = more t (trees ts)

-- what a tree has at its top

abbrev pub elem_of : Tree → Option ℕ
elem_of (text t) = None
elem_of (element h kids) = Some h.elem

abbrev pub text_of : Tree → List ℕ
text_of (text t) = t
text_of (element h kids) = []

abbrev pub children_of : Tree → Trees
children_of (text t) = none
children_of (element h kids) = kids

abbrev pub labels_of : Tree → List Mark
labels_of (text t) = []
labels_of (element h kids) = h.marks

abbrev pub target_of : Tree → Option (List ℕ)
target_of (text t) = None
target_of (element h kids) = h.target

abbrev pub is_identified : Tree → Bool
is_identified (text t) = false
is_identified (element h kids) = h.identified

-- an attribute's value: the one that was set last
abbrev pub value_of : ℕ → List Set → Option (List ℕ)
value_of a sets = option_map (λ s. s.value) (find (λ s. s.number == a) (reverse sets))

abbrev pub attr_of : ℕ → Tree → Option (List ℕ)
attr_of a (text t) = None
attr_of a (element h kids) = value_of a h.sets
