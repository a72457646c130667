use Rattle.std.proofs.Common.{◌≡◌, ◌+◌, ◌≤◌, vec_len, vec_capacity}
use Rattle.texml_input.specs.Held.{fences_of}
use Rattle.texml_input.specs.Keeping.{Holds}
use Rattle.texml_input.specs.Inside.{sources_of}
use Rattle.texml_input.proofs.emptying.close.Given as goal

abbrev pub invariant-loop-frame : goal.invariant-loop-frame
invariant-loop-frame g l = record {
  fences : l.fences + fences_of (sources_of l.frames.items) ≡ fences_of (sources_of l.initial.frames.items);
  room : l.fences + vec_len l.frames ≤ vec_capacity l.frames;
  holds : Holds (g.F.Files.shelf l.initial.files) (g.F.Files.shelf l.files) (sources_of l.initial.frames.items) (sources_of l.frames.items);
  total : (g.F.Files.shelf l.files).total ≡ (g.F.Files.shelf l.initial.files).total;
  faults : g.F.Files.faults l.files ≡ g.F.Files.faults l.initial.files;
}

abbrev pub decreases-loop-frame : goal.decreases-loop-frame
decreases-loop-frame g l = goal.left-loop-frame g l
