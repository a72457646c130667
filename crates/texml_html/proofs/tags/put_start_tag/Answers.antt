use Rattle.std.proofs.Common.{ap}
use Rattle.std.specs.List.{flat_map}
use Rattle.texml_tree.specs.Plain.{head_of}
use Rattle.texml_html.specs.Html.{class, set_attribute}
use Rattle.texml_html.specs.Walk.{rules_in}
use Rattle.texml_html.proofs.Going.{head_known}
use Rattle.texml_html.proofs.Pieces.{wrote_then, wrote_same}
use Rattle.texml_html.proofs.tags.put_start_tag.Goals as goal

pub tag-requires : goal.tag-requires
tag-requires g c = head_known _ _ _ (head_of c.args.head.now) c.requires

pub class-requires : goal.class-requires
class-requires g c = head_known _ _ _ (head_of c.args.head.now) c.requires

pub attrs-requires : goal.attrs-requires
attrs-requires g c = head_known _ _ _ (head_of c.args.head.now) c.requires

pub returns : goal.returns
returns g c =
    let tag = wrote_same _ _ _ _ c.tag.ensures c.put-2.ensures in
    let its_class = wrote_same _ _ _ _ (ap class c.class.ensures) c.put_class.ensures in
    let sets = wrote_same _ _ _ _ (ap (flat_map (set_attribute (rules_in c.args.page.now) (head_of c.args.head.now))) c.attrs.ensures.value) c.put_set_attributes.ensures in
    wrote_then _ _ _ _ _ (wrote_then _ _ _ _ _ (wrote_then _ _ _ _ _ (wrote_then _ _ _ _ _ (wrote_then _ _ _ _ _ c.put.ensures tag) its_class) c.put_id.ensures) sets) c.put-3.ensures
