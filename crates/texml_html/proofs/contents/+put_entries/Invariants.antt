use Rattle.std.proofs.Common.{drop}
use Rattle.texml_tree.specs.Plain.{plain}
use Rattle.texml_xref.specs.Refs.{heads}
use Rattle.texml_html.specs.Html.{behind, entries, entries_in}
use Rattle.texml_html.specs.Walk.{places_of, rules_in, linked_in}
use Rattle.texml_html.specs.Writing.{lent_by}
use Rattle.texml_html.proofs.Weighing.{weight}
use Rattle.texml_html.proofs.Going.{Left}
use Rattle.texml_html.proofs.contents.+put_entries.Given as goal

abbrev pub invariant-loop-child : goal.invariant-loop-child
invariant-loop-child g l = Left (rules_in l.page) (linked_in l.page) (entries_in (rules_in l.page) (linked_in l.page))
    (lent_by g.S.Sink.ink g.S.Sink.faults l.fn.out) (lent_by g.S.Sink.ink g.S.Sink.faults l.out) (places_of l.places) (drop l.child-index l.child-items)
    (entries (rules_in l.page) (linked_in l.page) (places_of l.fn.places) (plain l.node)) (behind (linked_in l.page) (places_of l.fn.places) (heads (plain l.node)))

abbrev pub decreases-put_entries : goal.decreases-put_entries
decreases-put_entries g l = weight (plain l.node.now)
