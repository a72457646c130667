use Rattle.std.proofs.Common.{drop}
use Rattle.texml_tree.specs.Plain.{plain}
use Rattle.texml_xref.specs.Refs.{heads}
use Rattle.texml_html.specs.Html.{behind}
use Rattle.texml_html.specs.Walk.{places_of, rules_in, linked_in}
use Rattle.texml_html.proofs.Weighing.{weight}
use Rattle.texml_html.proofs.Going.{Passing}
use Rattle.texml_html.proofs.places.+pass.Given as goal

abbrev pub invariant-loop-child : goal.invariant-loop-child
invariant-loop-child l = Passing (rules_in l.page) (linked_in l.page) (places_of l.places) (drop l.child-index l.child-items) (behind (linked_in l.page) (places_of l.fn.places) (heads (plain l.node)))

abbrev pub decreases-pass : goal.decreases-pass
decreases-pass l = weight (plain l.node.now)
