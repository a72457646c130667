use Rattle.std.proofs.Common.{arith, ◌∙◌, ◌++◌, ap, sym}
use Rattle.texml_tree.specs.Plain.{head_of, plain}
use Rattle.texml_tree.proofs.Nodes.{plain_element}
use Rattle.texml_html.specs.Html.{entries, entries_in, entry}
use Rattle.texml_html.specs.Walk.{places_of, rules_in, linked_in}
use Rattle.texml_html.proofs.Weighing.{child_lighter}
use Rattle.texml_html.proofs.Going.{plains, passing_all, passing_child, left_on, entries_go}
use Rattle.texml_html.proofs.contents.+put_entries.Goals as goal

pub loop-child-init : goal.loop-child-init
loop-child-init g t c = record {
  done = entry (rules_in c.args.page.now) (places_of c.args.places.now) (head_of c.in-Element.head.now) (plains c.in-Element.children.now);
  wrote = c.put_entry.ensures;
  rest =
      ap (λ p. entry (rules_in c.args.page.now) (places_of c.args.places.now) (head_of c.in-Element.head.now) (plains c.in-Element.children.now) ++ entries_in (rules_in c.args.page.now) (linked_in c.args.page.now) p (plains c.in-Element.children.now)) c.pass_head.ensures
      ∙ sym (ap (entries (rules_in c.args.page.now) (linked_in c.args.page.now) (places_of c.args.places.now)) (ap plain c.in-Element.is ∙ plain_element c.in-Element.head c.in-Element.children));
  passing = passing_all _ _ (places_of c.args.places.now) _ (head_of c.in-Element.head.now) c.in-Element.children.now (plain c.args.node.now) c.requires (ap plain c.in-Element.is ∙ plain_element c.in-Element.head c.in-Element.children) c.pass_head.ensures;
}

pub loop-child-preserved : goal.loop-child-preserved
loop-child-preserved g t c =
    left_on _ _ (entries (rules_in c.args.page.now) (linked_in c.args.page.now)) (entries_in (rules_in c.args.page.now) (linked_in c.args.page.now)) (entries_go _ _) _ _ _ _ _ c.in-Element.children.now c.loop-child.child-index c.child-item.result _ _
    c.loop-child-test.true c.child-item.is c.put_entries.ensures.written c.put_entries.ensures.places c.loop-child.invariant

pub put_entries-requires : goal.put_entries-requires
put_entries-requires g t c =
    let lighter = child_lighter c.in-Element.children.now c.loop-child.child-index c.child-item.result (head_of c.in-Element.head.now) (plain c.args.node.now) c.loop-child-test.true c.child-item.is (ap plain c.in-Element.is ∙ plain_element c.in-Element.head c.in-Element.children) in
    let ahead = passing_child _ _ _ c.in-Element.children.now c.loop-child.child-index c.child-item.result _ c.loop-child-test.true c.child-item.is c.loop-child.invariant.passing in
    λ κs lives. (omega (arith, lighter, c.decreases), (lives, ahead))
