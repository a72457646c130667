use Rattle.std.proofs.Common.{◌∙◌, ap}
use Rattle.texml_tree.specs.Plain.{head_of, plain}
use Rattle.texml_tree.proofs.Nodes.{plain_element}
use Rattle.texml_html.specs.declared.escape.Inside.TheVariants.{Text}
use Rattle.texml_html.proofs.Pieces.{wrote_then, wrote_same}
use Rattle.texml_html.proofs.Wording.{escaped_texts_on, texts_end}
use Rattle.texml_html.proofs.texts.+put_texts.Goals as goal

pub loop-child-preserved : goal.loop-child-preserved
loop-child-preserved g t c =
    wrote_same _ _ _ _ (escaped_texts_on Text c.in-Element.children.now c.loop-child.child-index c.child-item.result c.loop-child-test.true c.child-item.is)
    (wrote_then _ _ _ _ _ c.loop-child.invariant c.put_texts.ensures)

pub returns-after-loop-child : goal.returns-after-loop-child
returns-after-loop-child g t c =
    wrote_same _ _ _ _ (texts_end Text c.in-Element.children.now c.loop-child.child-index (head_of c.in-Element.field-0.now) (plain c.args.node.now) c.loop-child-test.false (ap plain c.in-Element.is ∙ plain_element c.in-Element.field-0 c.in-Element.children))
    c.loop-child.invariant
