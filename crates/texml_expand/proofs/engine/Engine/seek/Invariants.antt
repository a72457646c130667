use Rattle.texml_expand.specs.Contract.{files_at}
use Rattle.texml_expand.specs.Held.{held_room}
use Rattle.texml_expand.proofs.Seeking.{Seeking}
use Rattle.texml_expand.proofs.engine.Engine.seek.Given as goal

abbrev pub invariant-words : goal.invariant-words
invariant-words g l =
    let F = g.F.Files in
    Seeking l.at l.initial.sought l.initial.self (files_at (F.shelf l.initial.files) (F.faults l.initial.files)) l.sought l.self (files_at (F.shelf l.files) (F.faults l.files))

abbrev pub decreases-words : goal.decreases-words
decreases-words g l = held_room (g.F.Files.shelf l.files) l.self
