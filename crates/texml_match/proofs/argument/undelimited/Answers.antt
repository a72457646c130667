use Rattle.texml_token.specs.Numbers.{tokens_at}
use Rattle.texml_match.proofs.Grouping.{open_undelimited}
use Rattle.texml_match.proofs.argument.undelimited.Goals as goal

pub returns-then-depth-gt0-clause-is : goal.returns-then-depth-gt0-clause-is
returns-then-depth-gt0-clause-is c = λ texts e. open_undelimited (tokens_at texts c.args.list.now) c.args.depth e c.if-depth-gt0.true
