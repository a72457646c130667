use Rattle.std.proofs.Common.{◌≡◌, ◌≤◌, [], drop, vec_len}
use Rattle.texml_input.specs.Held.{ids_of}
use Rattle.texml_input.specs.Inside.{sources_of}
use Rattle.texml_input.proofs.emptying.end_file_of.Given as goal

abbrev pub invariant-loop-at : goal.invariant-loop-at
invariant-loop-at l = record {
  within : l.at ≤ vec_len l.frames;
  same : l.frames.items ≡ l.initial.frames.items;
  none : ids_of (sources_of (drop l.at l.frames.items)) ≡ [];
}

abbrev pub decreases-loop-at : goal.decreases-loop-at
decreases-loop-at l = l.at
