use Rattle.texml_top.proofs.Tables.{is_model}
use Rattle.texml_top.proofs.document.model.Goals as goal

pub new-requires : goal.new-requires
new-requires c = is_model c.in_ok-elements.elements c.in_ok-elements.ensures
