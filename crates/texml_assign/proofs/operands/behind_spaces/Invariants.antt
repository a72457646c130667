use Rattle.texml_expand.specs.Held.{held_room}
use Rattle.texml_expand.specs.Contract.{outside}
use Rattle.texml_expand.specs.Hearing.{hears, hears_part}
use Rattle.texml_assign.specs.Operands.{spaces_loop}
use Rattle.texml_assign.proofs.Commands.{spaces_laws}
use Rattle.texml_assign.proofs.Doing.{Goes}
use Rattle.texml_assign.proofs.operands.behind_spaces.Given as goal

abbrev pub invariant-spaces : goal.invariant-spaces
invariant-spaces g l = record {
  going : Goes (hears g.T.Teller.wanting g.T.Teller.heard) (hears_part g.T.Teller.wanting g.T.Teller.part) spaces_loop spaces_laws tt l.fn.engine (outside (g.F.Files.shelf l.fn.files) (g.F.Files.faults l.fn.files) (g.T.Teller.faults l.fn.tell) (g.T.Teller.loan l.fn.tell)) l.fn.tell
      tt l.engine (outside (g.F.Files.shelf l.files) (g.F.Files.faults l.files) (g.T.Teller.faults l.tell) (g.T.Teller.loan l.tell)) l.tell;
}

abbrev pub decreases-spaces : goal.decreases-spaces
decreases-spaces g l = held_room (g.F.Files.shelf l.files) l.engine
