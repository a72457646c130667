use Rattle.std.proofs.Common.{◌≡◌, []}
use Rattle.texml_input.specs.Held.{ids_of, SourcesWithin}
use Rattle.texml_tests.proofs.input.push_often.Given as goal

abbrev pub invariant-loop : goal.invariant-loop
invariant-loop l = (ids_of l.input.sources ≡ []) × SourcesWithin 0 l.input.sources
