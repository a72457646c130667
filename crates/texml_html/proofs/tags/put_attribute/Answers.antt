use Rattle.texml_html.proofs.Pieces.{wrote_then}
use Rattle.texml_html.proofs.tags.put_attribute.Goals as goal

pub returns : goal.returns
returns g c = wrote_then _ _ _ _ _ (wrote_then _ _ _ _ _ c.put_between.ensures c.put_escaped.ensures) c.put.ensures
