use Rattle.std.proofs.Common.{◌≡◌, ◌++◌, List, ℕ, drop}
use Rattle.texml_tree.specs.Plain.{head_of, plain}
use Rattle.texml_xref.specs.Refs.{heads}
use Rattle.texml_html.specs.Html.{behind, end_tag, node, nodes}
use Rattle.texml_html.specs.Walk.{places_of, rules_in, linked_in}
use Rattle.texml_html.specs.Writing.{Wrote, lent_by}
use Rattle.texml_html.proofs.Weighing.{weight}
use Rattle.texml_html.proofs.Going.{Left, Passing}
use Rattle.texml_html.proofs.nodes.+put_node.Given as goal

abbrev pub invariant-loop-child : goal.invariant-loop-child
invariant-loop-child g l = record {
  whole : List ℕ;
  left : Left (rules_in l.page) (linked_in l.page) (nodes (rules_in l.page) (linked_in l.page))
      (lent_by g.S.Sink.ink g.S.Sink.faults l.fn.out) (lent_by g.S.Sink.ink g.S.Sink.faults l.out) (places_of l.places) (drop l.child-index l.child-items)
      whole (behind (linked_in l.page) (places_of l.fn.places) (heads (plain l.node)));
  closes : whole ++ end_tag (rules_in l.page) (head_of l.head.now) ≡ node (rules_in l.page) (linked_in l.page) (places_of l.fn.places) (plain l.node);
}

abbrev pub invariant-loop-child-else-has_inside : goal.invariant-loop-child-else-has_inside
invariant-loop-child-else-has_inside g l = record {
  wrote : Wrote (lent_by g.S.Sink.ink g.S.Sink.faults l.fn.out) (node (rules_in l.page) (linked_in l.page) (places_of l.fn.places) (plain l.node)) (lent_by g.S.Sink.ink g.S.Sink.faults l.out);
  passing : Passing (rules_in l.page) (linked_in l.page) (places_of l.places) (drop l.child-index l.child-items) (behind (linked_in l.page) (places_of l.fn.places) (heads (plain l.node)));
}

abbrev pub decreases-put_node : goal.decreases-put_node
decreases-put_node g l = weight (plain l.node.now)
