use Rattle.std.proofs.Common.{◌≡◌}
use Rattle.texml_model.specs.Chain.{by_one}
use Rattle.texml_model.specs.Levels.{holding_with, chain_lists, at}
use Rattle.texml_model.proofs.Walk.{rest_of}
use Rattle.texml_model.proofs.chains.one_more.Given as goal

abbrev pub invariant-loop-elem : goal.invariant-loop-elem
invariant-loop-elem l = by_one (holding_with l.lines l.holds) (at (chain_lists l.found)) l.parent ≡ rest_of (holding_with l.lines l.holds) (at (chain_lists l.found)) l.parent l.elem
