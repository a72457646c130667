use Rattle.std.proofs.Common.{◌≡◌, drop}
use Rattle.texml_html.specs.Html.{first_element}
use Rattle.texml_html.proofs.Going.{plains}
use Rattle.texml_html.proofs.texts.first_element.Given as goal

abbrev pub invariant-loop-node : goal.invariant-loop-node
invariant-loop-node l = first_element (plains l.nodes) ≡ first_element (plains (drop l.node-index l.nodes))
