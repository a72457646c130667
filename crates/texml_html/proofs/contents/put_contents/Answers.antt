use Rattle.std.proofs.Common.{◌∙◌, ap}
use Rattle.texml_html.specs.Html.{entries, first_places}
use Rattle.texml_html.specs.Walk.{rules_in, linked_in}
use Rattle.texml_html.proofs.Pieces.{wrote_then, wrote_same}
use Rattle.texml_html.proofs.contents.put_contents.Goals as goal

pub returns : goal.returns
returns g c =
    wrote_then _ _ _ _ _ (wrote_then _ _ _ _ _ c.put.ensures (wrote_same _ _ _ _ (ap (entries (rules_in c.args.page.now) (linked_in c.args.page.now) first_places) (c.root.ensures ∙ c.tree.ensures)) c.put_entries.ensures.written)) c.put-2.ensures
