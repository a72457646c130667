-- The definitions on small trees.
use Rattle.std.proofs.Common.{◌≡◌, refl, [], ◌∷◌, None, Some, true}
use Rattle.std.specs.Prelude.{codes}
use Rattle.texml_tree.specs.Tree.{Head, Tree, text, element, trees, none, more, elem_of, text_of, children_of, value_of, attr_of, target_of, is_identified}

abbrev head : Head
head = record {
  elem = 3;
  identified = true;
  target = Some (codes "a");
  sets = record { number = 1; value = codes "old" } ∷ record { number = 0; value = codes "x" } ∷ record { number = 1; value = codes "new" } ∷ [];
  marks = [];
}

abbrev tree : Tree
tree = element head (trees (text (codes "t") ∷ []))

the_last_counts : value_of 1 head.sets ≡ Some (codes "new")
the_last_counts = refl

not_set : attr_of 2 tree ≡ None
not_set = refl

other_set : attr_of 0 tree ≡ Some (codes "x")
other_set = refl

its_children : children_of tree ≡ more (text (codes "t")) none
its_children = refl

its_element : elem_of tree ≡ Some 3
its_element = refl

its_target : target_of tree ≡ Some (codes "a")
its_target = refl

its_id : is_identified tree ≡ true
its_id = refl

no_text : text_of tree ≡ []
no_text = refl
