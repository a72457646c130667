use Rattle.texml_build.proofs.Texts.{texts_go_on}
use Rattle.texml_build.proofs.building.texts_go_on.Goals as goal

pub returns : goal.returns
returns c = texts_go_on
