use Rattle.std.proofs.Common.{◌≡◌, map, length, Some}
use Rattle.texml_model.specs.Chain.{chain_between}
use Rattle.texml_model.specs.Levels.{holding_with, chain_lists, upto}
use Rattle.texml_model.proofs.chains.all_chains.Given as goal

abbrev pub invariant-loop-elem : goal.invariant-loop-elem
invariant-loop-elem l = map (λ found. chain_lists found.items) l.all.items ≡ upto (λ e. upto (λ p. chain_between (holding_with l.lines l.holds) p (Some e)) (length l.lines)) l.elem
