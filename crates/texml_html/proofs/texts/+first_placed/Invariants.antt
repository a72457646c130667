use Rattle.std.proofs.Common.{◌≡◌, drop}
use Rattle.texml_tree.specs.Plain.{plain}
use Rattle.texml_xref.specs.Links.{place_of}
use Rattle.texml_html.specs.Html.{first_placed, first_placed_in}
use Rattle.texml_html.proofs.Going.{plains}
use Rattle.texml_html.proofs.texts.+first_placed.Given as goal

abbrev pub invariant-loop-child : goal.invariant-loop-child
invariant-loop-child l = first_placed (place_of l.place) (plain l.node) ≡ first_placed_in (place_of l.place) (plains (drop l.child-index l.child-items))
