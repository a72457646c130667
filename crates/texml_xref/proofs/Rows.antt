-- The definitions computed on a small tree.
use Rattle.std.proofs.Common.{◌≡◌, [], ◌∷◌, true, false, Option, None, Some, refl, ℕ, List, codes}
use Rattle.texml_tree.specs.Tree.{Mark, Tree, text, element, trees}
use Rattle.texml_xref.specs.Refs.{LinkedTree, links_in, ids_in}

abbrev mark : List ℕ → List ℕ → Mark
mark label number = record { label = label; number = number }

abbrev owner : List Mark → Tree
owner marks = element (record { elem = 0; identified = true; target = None; sets = []; marks = marks }) (trees [])

abbrev reference : Option (List ℕ) → Tree
reference target = element (record { elem = 1; identified = false; target = target; sets = []; marks = [] }) (trees [])

-- the root; references to `a`, to `b`, to a label that nobody has, and to none; two elements with `a`, and one with two marks `b`
abbrev tree : LinkedTree
tree = record {
  tree = element (record { elem = 0; identified = true; target = None; sets = []; marks = [] })
      (trees (reference (Some (codes "a")) ∷ owner (mark (codes "a") (codes "1") ∷ []) ∷ owner (mark (codes "a") (codes "2") ∷ []) ∷ owner (mark (codes "b") (codes "3") ∷ mark (codes "b") (codes "4") ∷ []) ∷ text (codes "t") ∷ reference (Some (codes "b")) ∷ reference (Some (codes "z")) ∷ reference None ∷ []));
  reference = Some 1;
  sections = 0;
}

four_ids : ids_in tree ≡ 4
four_ids = refl

last_element_and_last_mark : links_in tree ≡ Some (record { owner = 2; number = codes "2" }) ∷ Some (record { owner = 3; number = codes "4" }) ∷ None ∷ None ∷ []
last_element_and_last_mark = refl
