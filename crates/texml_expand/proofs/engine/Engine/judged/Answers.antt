use Rattle.std.proofs.Common.{sym, ap, ◌∙◌}
use Rattle.texml_token.specs.Numbers.{tokens_at}
use Rattle.texml_expand.specs.Held.{world_in, read_at}
use Rattle.texml_expand.specs.Gathering.{judged}
use Rattle.texml_expand.proofs.Gatherer.{ok_on}
use Rattle.texml_expand.proofs.engine.Engine.judged.Goals as goal

pub returns-in-Group-clause-is : goal.returns-in-Group-clause-is
returns-in-Group-clause-is c =
    let now = c.args.self.now in
    let w = world_in now in
    ok_on c.of_group.result c.of_group.ensures.is (λ v h. h now.names w ∙ sym (ap (λ k. judged k w (tokens_at now.names c.args.gathered.now) (read_at now.names c.args.read)) c.in-Group.is))
