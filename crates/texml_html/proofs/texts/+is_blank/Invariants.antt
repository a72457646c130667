use Rattle.std.proofs.Common.{◌≡◌, length, drop}
use Rattle.texml_tree.specs.Plain.{plain}
use Rattle.texml_html.specs.Html.{texts, texts_in}
use Rattle.texml_html.proofs.Going.{plains}
use Rattle.texml_html.proofs.texts.+is_blank.Given as goal

abbrev pub invariant-loop-child : goal.invariant-loop-child
invariant-loop-child l = length (texts (plain l.node)) ≡ length (texts_in (plains (drop l.child-index l.child-items)))
