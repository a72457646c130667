use Rattle.std.proofs.Common.{◌≡◌, List, ℕ, ◌++◌}
use Rattle.std.specs.Io.KnownBytes.{Appends}
use Rattle.texml_base.proofs.sink.write_whole.Given as goal

abbrev pub invariant-writes : goal.invariant-writes
invariant-writes g l = (done : List ℕ) × (l.fn.piece ≡ done ++ l.rest) × Appends (g.W.Write.contents l.fn.stream) (g.W.Write.contents l.stream) done
