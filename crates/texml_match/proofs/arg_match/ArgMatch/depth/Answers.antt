use Rattle.std.proofs.Common.{◌∙◌, sym, ap}
use Rattle.texml_token.specs.Numbers.{tokens_at}
use Rattle.texml_match.specs.Groups.{open_behind}
use Rattle.texml_match.proofs.arg_match.ArgMatch.depth.Goals as goal

pub returns : goal.returns
returns c = λ texts. ap (λ m. open_behind 0 (tokens_at texts m.list)) (sym c.self.view_is) ∙ c.self.invariant.0 texts
