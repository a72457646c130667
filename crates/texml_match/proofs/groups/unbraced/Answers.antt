use Rattle.std.proofs.Common.{ap, ◌∙◌, sym}
use Rattle.std.specs.Option.{unwrap_or}
use Rattle.texml_token.specs.Numbers.{tokens_at}
use Rattle.texml_match.proofs.groups.unbraced.Goals as goal

pub returns-in-Some-clause-is : goal.returns-in-Some-clause-is
returns-in-Some-clause-is c = λ texts. ap (λ o. unwrap_or o (tokens_at texts c.args.list.now)) (rw c.in-Some.is at (c.inside.ensures.is texts))

pub returns-in-None-clause-is : goal.returns-in-None-clause-is
returns-in-None-clause-is c = λ texts. ap (λ o. unwrap_or o (tokens_at texts c.args.list.now)) (rw c.in-None.is at (c.inside.ensures.is texts))
