use Rattle.std.proofs.Common.{◌≡◌, ◌-◌, length}
use Rattle.texml_input.specs.Put.{left_of}
use Rattle.texml_input.proofs.frame.next_token.Given as goal

abbrev pub invariant-loop-progress : goal.invariant-loop-progress
invariant-loop-progress l =
    left_of l.initial.args l.initial.body l.initial.progress.at l.initial.progress.slot l.initial.progress.read ≡ left_of l.args l.body l.progress.at l.progress.slot l.progress.read

abbrev pub decreases-loop-progress : goal.decreases-loop-progress
decreases-loop-progress l = length l.body - l.progress.at
