use Rattle.std.proofs.Common.{◌≡◌, []}
use Rattle.texml_expand.specs.Held.{held_room}
use Rattle.texml_expand.specs.Contract.{outside}
use Rattle.texml_expand.specs.Hearing.{hears, hears_part}
use Rattle.texml_assign.proofs.Doing.{Goes}
use Rattle.texml_top.specs.Verb.{text_loop}
use Rattle.texml_top.proofs.Verbs.{text_laws}
use Rattle.texml_top.proofs.verb.text_to.Given as goal

abbrev pub invariant-tokens : goal.invariant-tokens
invariant-tokens g l = record {
  going : Goes (hears g.T.Teller.wanting g.T.Teller.heard) (hears_part g.T.Teller.wanting g.T.Teller.part) (text_loop l.end) (text_laws l.end) [] l.fn.engine (outside (g.F.Files.shelf l.fn.files) (g.F.Files.faults l.fn.files) (g.T.Teller.faults l.fn.tell) (g.T.Teller.loan l.fn.tell)) l.fn.tell
      l.text l.engine (outside (g.F.Files.shelf l.files) (g.F.Files.faults l.files) (g.T.Teller.faults l.tell) (g.T.Teller.loan l.tell)) l.tell;
}

abbrev pub decreases-tokens : goal.decreases-tokens
decreases-tokens g l = held_room (g.F.Files.shelf l.files) l.engine
