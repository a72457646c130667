use Rattle.std.proofs.Common.{◌∙◌, ap, sym}
use Rattle.texml_tree.specs.Plain.{head_of}
use Rattle.texml_html.specs.Html.{link_start}
use Rattle.texml_html.specs.Walk.{places_of, rules_in}
use Rattle.texml_html.proofs.Going.{plains}
use Rattle.texml_html.proofs.Pieces.{wrote_then, wrote_same}
use Rattle.texml_html.proofs.Wording.{entry_is}
use Rattle.texml_html.proofs.contents.put_entry.Goals as goal

pub returns-then-head : goal.returns-then-head
returns-then-head g c =
    wrote_same _ _ _ _ (entry_is (rules_in c.args.page.now) (places_of c.args.places) (head_of c.args.head.now) (plains c.args.children.now) (sym (ap (λ f. f.toc) c.flags.ensures.value) ∙ c.if-flags.true) c.if-head.true)
    (wrote_then _ _ _ _ _ (wrote_then _ _ _ _ _ (wrote_then _ _ _ _ _ c.put.ensures (wrote_same _ _ _ _ (ap link_start c.id.ensures) c.put_link_start.ensures)) c.put_first_texts.ensures) c.put-then-head.ensures)
