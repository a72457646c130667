use Rattle.texml_token.specs.Numbers.{tokens_at}
use Rattle.texml_expand.specs.Least.{by_least}
use Rattle.texml_expand.specs.Braces.{absorbed}
use Rattle.texml_expand.proofs.Fed.{feeds_quiet, feeds_spends}
use Rattle.texml_expand.proofs.Groups.{group_agrees, absorb_shrinks, absorb_within}
use Rattle.texml_expand.proofs.Getting.{gets_by}
use Rattle.texml_expand.proofs.Running.{runs_at}
use Rattle.texml_expand.proofs.engine.Engine.absorb_group.Goals as goal

pub returns-clause-gets : goal.returns-clause-gets
returns-clause-gets g c =
    gets_by (by_least absorbed) _ _ _ _ _ (λ told. feeds_quiet absorbed tokens_at _ (group_agrees c.new-group.result c.new-group.ensures) _ c.feed.result _ _ (c.feed.ensures.feeds told))
    (feeds_spends absorbed tokens_at _ (group_agrees c.new-group.result c.new-group.ensures) c.feed.new.self.names c.feed.result _ _ c.args.self.now c.feed.new.self c.feed.ensures.spends)
    (runs_at (tokens_at c.feed.new.self.names) c.feed.result _ _ _ _ c.feed.ensures.runs)

pub returns-clause-lower : goal.returns-clause-lower
returns-clause-lower g c = absorb_shrinks c.new-group.result c.new-group.ensures c.feed.result _ _ _ _ c.feed.ensures.lower

pub returns-clause-within : goal.returns-clause-within
returns-clause-within g c = absorb_within c.new-group.result c.new-group.ensures c.feed.result _ _ _ _ c.feed.ensures.lower
