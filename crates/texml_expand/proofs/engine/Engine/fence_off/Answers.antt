use Rattle.texml_expand.specs.contracts.engine.Engine.{the_view}
use Rattle.texml_expand.proofs.Apart.{files_fenced}
use Rattle.texml_expand.proofs.engine.Engine.fence_off.Goals as goal

pub returns-clause-files : goal.returns-clause-files
returns-clause-files c =
    rw (← c.self.view_is)
    (files_fenced c.push_tokens.result (the_view c.self.inside) c.args.list.now c.fence.new.self c.push_tokens.new.self c.in_ok-fence.ensures.ok c.push_tokens.ensures.ok c.push_tokens.ensures.err)
