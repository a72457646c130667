use Rattle.texml_top.proofs.Tables.{are_named}
use Rattle.texml_top.proofs.laws.digested_elements_are_named.Goals as goal

pub returns : goal.returns
returns c = are_named
