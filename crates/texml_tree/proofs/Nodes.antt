-- The plain tree of an element.
use Rattle.std.proofs.Common.{◌≡◌, ◌∙◌, ap, sym, List, map}
use denote.Bor.{Bor}
use Rattle.texml_tree.specs.declared.tree.Head.{Head as HeadCode}
use Rattle.texml_tree.specs.declared.tree.Node.{Node}
use Rattle.texml_tree.specs.declared.tree.Node.TheOpen as open_node
use Rattle.texml_tree.specs.declared.tree.Node.TheViews as view
use Rattle.texml_tree.specs.declared.tree.Node.TheVariants as variant
use Rattle.texml_tree.specs.declared.tree.Node.TheFolds.{fold-roll-Node}
use Rattle.texml_tree.specs.Tree.{Tree, element, trees}
use Rattle.texml_tree.specs.Plain.{head_of, plain, plain_step}

pub plain_element : (h : Bor HeadCode) (kids : Bor (List Node)) → plain (view.Element h kids) ≡ element (head_of h.now) (trees (map plain kids.now))
plain_element h kids = ap plain (sym (variant.rolls-Element h kids)) ∙ fold-roll-Node Tree plain_step (open_node.Element h kids)
