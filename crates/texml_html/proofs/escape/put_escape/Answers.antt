use Rattle.texml_html.proofs.Pieces.{wrote_then}
use Rattle.texml_html.proofs.escape.put_escape.Goals as goal

pub returns : goal.returns
returns g c = wrote_then _ _ _ c.args.plain.now c.args.name.now c.put.ensures c.put-2.ensures
