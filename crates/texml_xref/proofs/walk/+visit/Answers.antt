use Rattle.std.proofs.Common.{◌∙◌, ap, sym, [], ◌∷◌}
use Rattle.texml_tree.specs.Plain.{head_of, plain}
use Rattle.texml_tree.proofs.Nodes.{plain_element}
use Rattle.texml_xref.specs.Refs.{heads}
use Rattle.texml_xref.proofs.Walks.{goes_on, arrived}
use Rattle.texml_xref.proofs.walk.+visit.Goals as goal

pub loop-child-init : goal.loop-child-init
loop-child-init t c = λ hs has. record {
  done = head_of c.in-Element.head.now ∷ [];
  has = c.in_ok-meet-in-Element.ensures hs has;
  rest = sym (ap heads (ap plain c.in-Element.is ∙ plain_element c.in-Element.head c.in-Element.children));
}

pub loop-child-preserved : goal.loop-child-preserved
loop-child-preserved t c = λ hs has. goes_on _ _ c.loop-child.found c.visit.new.found hs _ c.in-Element.children.now c.loop-child.child-index c.child-item.result c.loop-child-test.true c.child-item.is c.in_ok-visit-in-Element.ensures (c.loop-child.invariant hs has)

pub returns-after-loop-child : goal.returns-after-loop-child
returns-after-loop-child t c = λ hs has. arrived _ _ c.loop-child.found hs _ c.in-Element.children.now c.loop-child.child-index c.loop-child-test.false (c.loop-child.invariant hs has)
