use Rattle.texml_top.proofs.Outcomes.{one_outcome}
use Rattle.texml_top.proofs.laws.one_outcome.Goals as goal

pub returns : goal.returns
returns c = one_outcome
