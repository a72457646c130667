use Rattle.std.proofs.Common.{arith, ◌∙◌, [], ◌∷◌, ◌++◌, ap, sym}
use Rattle.texml_tree.specs.Plain.{head_of, plain}
use Rattle.texml_tree.proofs.Nodes.{plain_element}
use Rattle.texml_html.specs.Html.{behind, node, nodes, opening}
use Rattle.texml_html.specs.Walk.{places_of, rules_in, linked_in}
use Rattle.texml_html.proofs.Weighing.{child_lighter}
use Rattle.texml_html.proofs.Going.{plains, passing_all, passing_child, passing_on, left_on, left_end, nodes_go, ahead_head, head_known, node_open, node_shut}
use Rattle.texml_html.proofs.Pieces.{wrote_then, wrote_same}
use Rattle.texml_html.proofs.nodes.+put_node.Goals as goal

pub loop-child-init : goal.loop-child-init
loop-child-init g t c = record {
  whole = opening (rules_in c.args.page.now) (linked_in c.args.page.now) (places_of c.args.places.now) (head_of c.in-Element.head.now) ++ nodes (rules_in c.args.page.now) (linked_in c.args.page.now) (behind (linked_in c.args.page.now) (places_of c.args.places.now) (head_of c.in-Element.head.now ∷ [])) (plains c.in-Element.children.now);
  left = record {
    done = opening (rules_in c.args.page.now) (linked_in c.args.page.now) (places_of c.args.places.now) (head_of c.in-Element.head.now);
    wrote = c.put_opening.ensures;
    rest = ap (λ p. opening (rules_in c.args.page.now) (linked_in c.args.page.now) (places_of c.args.places.now) (head_of c.in-Element.head.now) ++ nodes (rules_in c.args.page.now) (linked_in c.args.page.now) p (plains c.in-Element.children.now)) c.pass_head.ensures;
    passing = passing_all _ _ (places_of c.args.places.now) _ (head_of c.in-Element.head.now) c.in-Element.children.now (plain c.args.node.now) c.requires (ap plain c.in-Element.is ∙ plain_element c.in-Element.head c.in-Element.children) c.pass_head.ensures;
  };
  closes = node_open _ _ _ (head_of c.in-Element.head.now) c.in-Element.children.now (plain c.args.node.now) (ap plain c.in-Element.is ∙ plain_element c.in-Element.head c.in-Element.children) (sym c.has_inside.ensures ∙ c.if-has_inside.true);
}

pub loop-child-preserved : goal.loop-child-preserved
loop-child-preserved g t c = record {
  whole = c.loop-child.invariant.whole;
  left = left_on _ _ (node (rules_in c.args.page.now) (linked_in c.args.page.now)) (nodes (rules_in c.args.page.now) (linked_in c.args.page.now)) (nodes_go _ _) _ _ _ _ _ c.in-Element.children.now c.loop-child.child-index c.child-item.result _ _
      c.loop-child-test.true c.child-item.is c.put_node.ensures.written c.put_node.ensures.places c.loop-child.invariant.left;
  closes = c.loop-child.invariant.closes;
}

pub put_end_tag-requires : goal.put_end_tag-requires
put_end_tag-requires g t c = head_known _ _ _ (head_of c.in-Element.head.now) (ahead_head _ _ _ (head_of c.in-Element.head.now) c.in-Element.children.now (plain c.args.node.now) c.requires (ap plain c.in-Element.is ∙ plain_element c.in-Element.head c.in-Element.children))

pub returns-after-loop-child-clause-written : goal.returns-after-loop-child-clause-written
returns-after-loop-child-clause-written g t c =
    wrote_same _ _ _ _ c.loop-child.invariant.closes
    (wrote_then _ _ _ _ _ (left_end _ _ (node (rules_in c.args.page.now) (linked_in c.args.page.now)) (nodes (rules_in c.args.page.now) (linked_in c.args.page.now)) (nodes_go _ _) _ _ _ c.in-Element.children.now c.loop-child.child-index _ _ c.loop-child-test.false c.loop-child.invariant.left) c.put_end_tag.ensures)

pub loop-child-else-has_inside-init : goal.loop-child-else-has_inside-init
loop-child-else-has_inside-init g t c = record {
  wrote = wrote_same _ _ _ _ (node_shut _ _ _ (head_of c.in-Element.head.now) c.in-Element.children.now (plain c.args.node.now) (ap plain c.in-Element.is ∙ plain_element c.in-Element.head c.in-Element.children) (sym c.has_inside.ensures ∙ c.if-has_inside.false)) c.put_opening.ensures;
  passing = passing_all _ _ (places_of c.args.places.now) _ (head_of c.in-Element.head.now) c.in-Element.children.now (plain c.args.node.now) c.requires (ap plain c.in-Element.is ∙ plain_element c.in-Element.head c.in-Element.children) c.pass_head.ensures;
}

pub put_node-requires : goal.put_node-requires
put_node-requires g t c =
    let lighter = child_lighter c.in-Element.children.now c.loop-child.child-index c.child-item.result (head_of c.in-Element.head.now) (plain c.args.node.now) c.loop-child-test.true c.child-item.is (ap plain c.in-Element.is ∙ plain_element c.in-Element.head c.in-Element.children) in
    let ahead = passing_child _ _ _ c.in-Element.children.now c.loop-child.child-index c.child-item.result _ c.loop-child-test.true c.child-item.is c.loop-child.invariant.left.passing in
    λ κs lives. (omega (arith, lighter, c.decreases), (lives, ahead))

pub pass-requires : goal.pass-requires
pass-requires g t c =
    passing_child _ _ _ c.in-Element.children.now c.loop-child-else-has_inside.child-index c.child-item-in-loop-child-else-has_inside.result _ c.loop-child-else-has_inside-test.true c.child-item-in-loop-child-else-has_inside.is c.loop-child-else-has_inside.invariant.passing

pub loop-child-else-has_inside-preserved : goal.loop-child-else-has_inside-preserved
loop-child-else-has_inside-preserved g t c = record {
  wrote = c.loop-child-else-has_inside.invariant.wrote;
  passing = passing_on _ _ _ _ c.in-Element.children.now c.loop-child-else-has_inside.child-index c.child-item-in-loop-child-else-has_inside.result _ c.loop-child-else-has_inside-test.true c.child-item-in-loop-child-else-has_inside.is c.pass.ensures c.loop-child-else-has_inside.invariant.passing;
}
