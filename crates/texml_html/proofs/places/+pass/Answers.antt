use Rattle.std.proofs.Common.{arith, ◌∙◌, ap}
use Rattle.texml_tree.specs.Plain.{head_of, plain}
use Rattle.texml_tree.proofs.Nodes.{plain_element}
use Rattle.texml_html.specs.Walk.{places_of}
use Rattle.texml_html.proofs.Weighing.{child_lighter}
use Rattle.texml_html.proofs.Going.{passing_all, passing_child, passing_on}
use Rattle.texml_html.proofs.places.+pass.Goals as goal

pub loop-child-init : goal.loop-child-init
loop-child-init t c = passing_all _ _ (places_of c.args.places.now) _ (head_of c.in-Element.head.now) c.in-Element.children.now (plain c.args.node.now) c.requires (ap plain c.in-Element.is ∙ plain_element c.in-Element.head c.in-Element.children) c.pass_head.ensures

pub loop-child-preserved : goal.loop-child-preserved
loop-child-preserved t c = passing_on _ _ _ _ c.in-Element.children.now c.loop-child.child-index c.child-item.result _ c.loop-child-test.true c.child-item.is c.pass.ensures c.loop-child.invariant

pub pass-requires : goal.pass-requires
pass-requires t c =
    let lighter = child_lighter c.in-Element.children.now c.loop-child.child-index c.child-item.result (head_of c.in-Element.head.now) (plain c.args.node.now) c.loop-child-test.true c.child-item.is (ap plain c.in-Element.is ∙ plain_element c.in-Element.head c.in-Element.children) in
    let ahead = passing_child _ _ _ c.in-Element.children.now c.loop-child.child-index c.child-item.result _ c.loop-child-test.true c.child-item.is c.loop-child.invariant in
    (omega (arith, lighter, c.decreases), ahead)
