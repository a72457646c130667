use Rattle.std.proofs.Common.{◌≡◌, ◌∙◌, ap}
use Rattle.texml_tree.specs.Plain.{plain}
use Rattle.texml_html.specs.declared.escape.Inside.TheVariants.{Text}
use Rattle.texml_html.specs.Html.{escaped, first_placed, first_places, node, texts_or_none, untitled_if_empty}
use Rattle.texml_html.specs.Walk.{rules_in, linked_in}
use Rattle.texml_html.proofs.Pieces.{wrote_then, wrote_same}
use Rattle.texml_html.proofs.writing.put_page.Goals as goal

pub returns : goal.returns
returns g c =
    let tree : plain c.root-root.result.now ≡ (linked_in c.args.page.now).tree = c.root-root.ensures ∙ c.tree.ensures in
    let title = wrote_same _ _ _ _ (λ i. escaped Text (untitled_if_empty (texts_or_none (first_placed (c.named.ensures i) (tree i))))) c.put_title.ensures in
    let body = wrote_same _ _ _ _ (ap (node (rules_in c.args.page.now) (linked_in c.args.page.now) first_places) tree) c.put_node.ensures.written in
    wrote_then _ _ _ _ _ (wrote_then _ _ _ _ _ (wrote_then _ _ _ _ _ (wrote_then _ _ _ _ _ c.put.ensures title) c.put-2.ensures) body) c.put-3.ensures
