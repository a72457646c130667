use Rattle.std.proofs.Common.{◌≡◌, ℕ, length}
use Rattle.texml_model.specs.Chain.{shortest}
use Rattle.texml_model.specs.Levels.{holding_with, chain_lists, upto, missing}
use Rattle.texml_model.proofs.chains.chains_to.Given as goal

-- the level that was reached, and how many chains are missing there
abbrev pub invariant-loop-found : goal.invariant-loop-found
invariant-loop-found l = record {
  level : ℕ;
  is : chain_lists l.found.items ≡ upto (shortest (holding_with l.lines l.holds) l.fn.child level) (length l.lines);
  left : l.left ≡ missing (chain_lists l.found.items);
}

abbrev pub decreases-loop-found : goal.decreases-loop-found
decreases-loop-found l = l.left
