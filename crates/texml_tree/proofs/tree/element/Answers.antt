use Rattle.std.proofs.Common.{◌∙◌, map}
use Rattle.texml_tree.specs.Tree.{element, trees}
use Rattle.texml_tree.specs.Plain.{head_of, plain}
use Rattle.texml_tree.proofs.Nodes.{plain_element}
use Rattle.texml_tree.proofs.tree.element.Goals as goal

pub returns : goal.returns
returns c = plain_element _ _
    ∙ (λ i. element (head_of (c.in_ok-kept.ensures i)) (trees (map plain (c.in_ok-copy.ensures i))))
