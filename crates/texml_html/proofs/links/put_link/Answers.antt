use Rattle.std.proofs.Common.{◌++◌}
use Rattle.texml_html.specs.declared.escape.Inside.TheVariants.{Text}
use Rattle.texml_html.specs.Html.{escaped, link_start}
use Rattle.texml_html.proofs.Pieces.{wrote_then}
use Rattle.texml_html.proofs.links.put_link.Goals as goal

pub returns : goal.returns
returns g c =
    wrote_then _ _ _ (link_start c.args.id.now ++ escaped Text c.args.number.now) _
    (wrote_then _ _ _ (link_start c.args.id.now) (escaped Text c.args.number.now) c.put_link_start.ensures c.put_escaped.ensures) c.put.ensures
