use Rattle.texml_build.proofs.Lawful.{built_valid}
use Rattle.texml_build.proofs.building.every_tree_is_valid.Goals as goal

pub returns : goal.returns
returns c = built_valid
