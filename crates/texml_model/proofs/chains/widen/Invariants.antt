use Rattle.std.proofs.Common.{◌≡◌}
use Rattle.texml_model.specs.Levels.{holding_with, chain_lists, upto, wider, at}
use Rattle.texml_model.proofs.chains.widen.Given as goal

abbrev pub invariant-loop-parent : goal.invariant-loop-parent
invariant-loop-parent l = chain_lists l.next.items ≡ upto (wider (holding_with l.lines l.holds) (at (chain_lists l.found))) l.parent
