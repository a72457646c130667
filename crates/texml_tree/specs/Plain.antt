-- The plain tree that a tree in an arena stands for.
use Rattle.std.specs.Prelude.{map}
use Rattle.std.specs.Option.{option_map}
use Rattle.texml_tree.specs.declared.tree.Attr.{Attr}
use Rattle.texml_tree.specs.declared.tree.Tag.{Tag}
use Rattle.texml_tree.specs.declared.tree.Head.{Head as HeadCode}
use Rattle.texml_tree.specs.declared.tree.Node.{Node}
use Rattle.texml_tree.specs.declared.tree.Node.TheOpen.{Node-F, Text, Element}
use Rattle.texml_tree.specs.declared.tree.Node.TheFolds.{fold-Node}
use Rattle.texml_tree.specs.declared.tree.Tree.{Tree as TreeCode}
use Rattle.texml_tree.specs.Tree.{Set, Mark, Head, Tree, text, element, trees}

abbrev pub set_of : Attr → Set
set_of a = record { number = a.number; value = a.value.now }

abbrev pub mark_of : Tag → Mark
mark_of t = record { label = t.label.now; number = t.number.now }

abbrev pub head_of : HeadCode → Head
head_of h = record {
  elem = h.elem.0;
  identified = h.identified;
  target = option_map (λ t. t.now) h.given.now.target;
  sets = map set_of h.given.now.attrs.now;
  marks = map mark_of h.given.now.labels.now;
}

-- one node, with the plain tree of each child in its place
abbrev pub plain_step : Node-F Tree → Tree
plain_step (Text t) = text t.now
plain_step (Element h kids) = element (head_of h.now) (trees kids.now)

abbrev pub plain : Node → Tree
plain = fold-Node Tree plain_step

abbrev pub tree_of : TreeCode → Tree
tree_of t = plain t.root
