use Rattle.std.proofs.Common.{take}
use Rattle.texml_html.specs.declared.escape.Inside.TheVariants.{Text}
use Rattle.texml_html.specs.Html.{escaped, texts_in}
use Rattle.texml_html.specs.Writing.{Wrote, lent_by}
use Rattle.texml_html.proofs.Going.{plains}
use Rattle.texml_html.proofs.texts.+put_texts.Given as goal

abbrev pub invariant-loop-child : goal.invariant-loop-child
invariant-loop-child g l = Wrote (lent_by g.S.Sink.ink g.S.Sink.faults l.fn.out) (escaped Text (texts_in (plains (take l.child-index l.child-items)))) (lent_by g.S.Sink.ink g.S.Sink.faults l.out)
