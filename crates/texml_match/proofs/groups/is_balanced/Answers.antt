use Rattle.std.proofs.Common.{ap, ◌∙◌, sym}
use Rattle.texml_match.specs.Groups.{is_none_open}
use Rattle.texml_match.proofs.groups.is_balanced.Goals as goal

pub returns-in-Some : goal.returns-in-Some
returns-in-Some c = λ texts. ap is_none_open (sym c.in-Some.is ∙ c.open_in.ensures texts)

pub returns-in-None : goal.returns-in-None
returns-in-None c = λ texts. ap is_none_open (sym c.in-None.is ∙ c.open_in.ensures texts)
