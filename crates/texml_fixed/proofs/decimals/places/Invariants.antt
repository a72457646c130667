use Rattle.std.proofs.Common.{◌≡◌, ◌<◌, ◌≤◌, ℕ, false}
use Rattle.texml_fixed.specs.Decimals.{reads_back}
use Rattle.texml_fixed.proofs.decimals.places.Given as goal

abbrev pub invariant-loop-place : goal.invariant-loop-place
invariant-loop-place l = (k : ℕ) → 1 ≤ k → k < l.place → reads_back l.fraction k ≡ false
