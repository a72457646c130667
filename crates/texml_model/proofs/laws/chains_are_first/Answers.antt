use Rattle.texml_model.proofs.First.{chains_first}
use Rattle.texml_model.proofs.laws.chains_are_first.Goals as goal

pub returns : goal.returns
returns c = chains_first
