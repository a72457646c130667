use Rattle.std.proofs.Common.{◌≡◌, ◌≤◌, ◌+◌, drop}
use Rattle.texml_model.specs.Levels.{chain_lists, missing}
use Rattle.texml_model.proofs.chains.count_missing.Given as goal

abbrev pub invariant-loop-chain : goal.invariant-loop-chain
invariant-loop-chain l = record { few : l.count ≤ l.chain-index; same : l.count + missing (chain_lists (drop l.chain-index l.found)) ≡ missing (chain_lists l.found) }
