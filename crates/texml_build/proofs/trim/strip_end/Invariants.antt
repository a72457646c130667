use Rattle.std.proofs.Common.{length, ◌≡◌, ◌≤◌, take}
use Rattle.texml_build.specs.Trim.{strip_end}
use Rattle.texml_build.proofs.trim.strip_end.Given as goal

abbrev pub invariant-loop-to : goal.invariant-loop-to
invariant-loop-to l = record { within : l.to ≤ length l.text; same : strip_end (take l.to l.text) ≡ strip_end l.text }

abbrev pub decreases-loop-to : goal.decreases-loop-to
decreases-loop-to l = l.to
