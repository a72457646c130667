use Rattle.texml_expand.specs.Contract.{files_at}
use Rattle.texml_expand.specs.Held.{held_room}
use Rattle.texml_expand.proofs.Spacing.{Spacing}
use Rattle.texml_expand.proofs.engine.Engine.behind_spaces.Given as goal

abbrev pub invariant-spaces : goal.invariant-spaces
invariant-spaces g l =
    let F = g.F.Files in
    Spacing l.initial.self (files_at (F.shelf l.initial.files) (F.faults l.initial.files)) l.self (files_at (F.shelf l.files) (F.faults l.files))

abbrev pub decreases-spaces : goal.decreases-spaces
decreases-spaces g l = held_room (g.F.Files.shelf l.files) l.self
