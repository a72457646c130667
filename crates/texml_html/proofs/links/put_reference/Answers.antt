use Rattle.texml_xref.specs.Refs.{link_at}
use Rattle.texml_html.specs.Walk.{linked_in}
use Rattle.texml_html.proofs.Pieces.{wrote_same}
use Rattle.texml_html.proofs.Wording.{reference_none}
use Rattle.texml_html.proofs.links.put_reference.Goals as goal

pub returns-in-None : goal.returns-in-None
returns-in-None g c = wrote_same _ _ _ _ (reference_none (link_at (linked_in c.args.page.now) c.args.at) c.in-None.ensures.value) c.put.ensures
