use Rattle.std.proofs.Common.{◌≡◌, ◌≤◌, replicate, vec_len, vec_capacity}
use Rattle.texml_input.specs.Held.{Fence}
use Rattle.texml_input.specs.Inside.{sources_of}
use Rattle.texml_input.proofs.emptying.empty.Given as goal

abbrev pub invariant-loop : goal.invariant-loop
invariant-loop g l = record {
  fences : sources_of l.frames.items ≡ replicate l.counter Fence;
  len : vec_len l.frames ≡ l.counter;
  room : l.fences ≤ vec_capacity l.frames;
}
