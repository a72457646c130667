use Rattle.texml_token.proofs.Same.{tokens-decides}
use Rattle.texml_token.proofs.tokens.same_tokens.Goals as goal

pub returns : goal.returns
returns c = tokens-decides c.args.a.now c.args.b.now c.eq.result c.eq.ensures
