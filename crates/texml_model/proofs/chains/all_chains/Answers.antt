use Rattle.std.proofs.Common.{◌∙◌, ap, length, map, Some}
use Rattle.texml_model.specs.Chain.{chain_between}
use Rattle.texml_model.specs.Levels.{holding_with, chain_lists, upto}
use Rattle.texml_model.proofs.Walk.{push_upto}
use Rattle.texml_model.proofs.chains.all_chains.Goals as goal

pub loop-elem-preserved : goal.loop-elem-preserved
loop-elem-preserved c =
    ap (map (λ found. chain_lists found.items)) c.in_ok-push.ensures.items
    ∙ push_upto (λ found. chain_lists found.items) (λ e. upto (λ p. chain_between (holding_with c.args.lines.now c.args.holds.now) p (Some e)) (length c.args.lines.now)) c.loop-elem.elem c.loop-elem.all.items c.in_ok-found.found c.loop-elem.invariant c.in_ok-found.ensures
