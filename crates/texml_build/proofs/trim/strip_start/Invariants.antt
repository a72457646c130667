use Rattle.std.proofs.Common.{length, ◌-◌, ◌≡◌, ◌≤◌, drop}
use Rattle.texml_build.specs.Trim.{strip_start}
use Rattle.texml_build.proofs.trim.strip_start.Given as goal

abbrev pub invariant-loop-from : goal.invariant-loop-from
invariant-loop-from l = record { within : l.from ≤ length l.text; same : strip_start (drop l.from l.text) ≡ strip_start l.text }

abbrev pub decreases-loop-from : goal.decreases-loop-from
decreases-loop-from l = length l.text - l.from
