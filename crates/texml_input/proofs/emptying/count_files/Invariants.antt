use Rattle.std.proofs.Common.{◌≡◌, ◌≤◌, length, take}
use Rattle.texml_input.specs.Held.{ids_of}
use Rattle.texml_input.specs.Inside.{sources_of}
use Rattle.texml_input.proofs.emptying.count_files.Given as goal

abbrev pub invariant-loop-frame : goal.invariant-loop-frame
invariant-loop-frame l = record {
  within : l.count ≤ l.frame-index;
  count : l.count ≡ length (ids_of (sources_of (take l.frame-index l.frames)));
}
