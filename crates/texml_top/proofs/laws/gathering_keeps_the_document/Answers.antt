use Rattle.texml_top.proofs.Gathering.{gathering_keeps}
use Rattle.texml_top.proofs.laws.gathering_keeps_the_document.Goals as goal

pub returns : goal.returns
returns c = gathering_keeps
