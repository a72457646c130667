use Rattle.std.proofs.Common.{◌≡◌}
use Rattle.texml_assign.specs.NewCommand.{numbered}
use Rattle.texml_assign.proofs.new_command.numbered.Given as goal

abbrev pub invariant-loop-before : goal.invariant-loop-before
invariant-loop-before l = l.pieces ≡ numbered l.before
