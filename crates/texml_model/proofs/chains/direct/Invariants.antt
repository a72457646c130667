use Rattle.std.proofs.Common.{◌≡◌}
use Rattle.texml_model.specs.Chain.{chain_of}
use Rattle.texml_model.specs.Levels.{holding_with, chain_lists, upto}
use Rattle.texml_model.proofs.chains.direct.Given as goal

abbrev pub invariant-loop-parent : goal.invariant-loop-parent
invariant-loop-parent l = chain_lists l.found.items ≡ upto (chain_of (holding_with l.lines l.holds) l.child 0) l.parent
