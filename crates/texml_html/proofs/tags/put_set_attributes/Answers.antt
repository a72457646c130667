use Rattle.texml_tree.specs.Plain.{head_of}
use Rattle.texml_html.specs.Html.{if_set, set_attribute}
use Rattle.texml_html.specs.Walk.{rules_in}
use Rattle.texml_html.proofs.Pieces.{wrote_then, wrote_same}
use Rattle.texml_html.proofs.Wording.{flat_on}
use Rattle.texml_html.proofs.tags.put_set_attributes.Goals as goal

pub loop-attr-preserved : goal.loop-attr-preserved
loop-attr-preserved g c =
    wrote_same _ _ _ _ (flat_on (set_attribute (rules_in c.args.page.now) (head_of c.args.head.now)) c.args.attrs.now c.loop-attr.attr-index 0 c.loop-attr-test.true)
    (wrote_then _ _ _ _ _ c.loop-attr.invariant (wrote_same _ _ _ _ (λ i. if_set (c.attr_name.ensures i) (c.attr.ensures i)) c.put_set_attribute.ensures))
