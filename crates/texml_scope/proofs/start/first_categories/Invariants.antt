use Rattle.std.proofs.Common.{◌≡◌, ◌<◌, ℕ, length}
use Rattle.std.specs.Prelude.{slice_index}
use Rattle.texml_scope.specs.Starting.{initial_category}
use Rattle.texml_scope.proofs.start.first_categories.Given as goal

abbrev pub invariant-loop-code : goal.invariant-loop-code
invariant-loop-code l = record {
  long : length l.categories ≡ 128;
  first : (k : ℕ) → k < l.code → slice_index l.categories k ≡ initial_category k;
}
