use Rattle.std.proofs.Common.{◌≡◌, ◌-◌}
use Rattle.texml_expand.specs.Held.{held_room}
use Rattle.texml_expand.specs.Contract.{outside}
use Rattle.texml_expand.specs.Hearing.{hears, hears_part}
use Rattle.texml_assign.proofs.Doing.{Goes}
use Rattle.texml_top.specs.Gather.{nothing_yet}
use Rattle.texml_top.specs.Digest.{digestion}
use Rattle.texml_top.proofs.Digesting.{digestion_laws}
use Rattle.texml_top.proofs.digest.digest.Given as goal

abbrev pub invariant-rounds : goal.invariant-rounds
invariant-rounds g l = record {
  going : Goes (hears g.T.Teller.wanting g.T.Teller.heard) (hears_part g.T.Teller.wanting g.T.Teller.part) digestion digestion_laws nothing_yet l.fn.engine (outside (g.F.Files.shelf l.fn.files) (g.F.Files.faults l.fn.files) (g.T.Teller.faults l.fn.tell) (g.T.Teller.loan l.fn.tell)) l.fn.tell
      l.seen l.engine (outside (g.F.Files.shelf l.files) (g.F.Files.faults l.files) (g.T.Teller.faults l.tell) (g.T.Teller.loan l.tell)) l.tell;
}

abbrev pub decreases-rounds : goal.decreases-rounds
decreases-rounds g l = l.engine.limit - l.engine.begun

abbrev pub invariant-tokens : goal.invariant-tokens
invariant-tokens g l = record {
  going : Goes (hears g.T.Teller.wanting g.T.Teller.heard) (hears_part g.T.Teller.wanting g.T.Teller.part) digestion digestion_laws nothing_yet l.fn.engine (outside (g.F.Files.shelf l.fn.files) (g.F.Files.faults l.fn.files) (g.T.Teller.faults l.fn.tell) (g.T.Teller.loan l.fn.tell)) l.fn.tell
      l.seen l.engine (outside (g.F.Files.shelf l.files) (g.F.Files.faults l.files) (g.T.Teller.faults l.tell) (g.T.Teller.loan l.tell)) l.tell;
  begun : l.engine.begun ≡ l.begun;
  same : l.begun ≡ l.initial.engine.begun;
  limit : l.engine.limit ≡ l.initial.engine.limit;
}

abbrev pub decreases-tokens : goal.decreases-tokens
decreases-tokens g l = held_room (g.F.Files.shelf l.files) l.engine
