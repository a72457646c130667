use Rattle.std.proofs.Common.{◌≡◌, ◌≤◌, length, take}
use Rattle.texml_text.specs.Lines.{trim_end}
use Rattle.texml_text.proofs.lines.without_spaces.Given as goal

abbrev pub invariant-loop-end : goal.invariant-loop-end
invariant-loop-end l = (l.end ≤ length l.line) × (trim_end (take l.end l.line) ≡ trim_end l.line)

abbrev pub decreases-loop-end : goal.decreases-loop-end
decreases-loop-end l = l.end
