use Rattle.texml_expand.specs.Contract.{files_at}
use Rattle.texml_expand.specs.Held.{held_room}
use Rattle.texml_expand.proofs.Skipping.{Skipping}
use Rattle.texml_expand.proofs.engine.Engine.skipped.Given as goal

abbrev pub invariant-tokens : goal.invariant-tokens
invariant-tokens g l =
    let F = g.F.Files in
    Skipping l.initial.self (files_at (F.shelf l.initial.files) (F.faults l.initial.files)) l.skip l.self (files_at (F.shelf l.files) (F.faults l.files))

abbrev pub decreases-tokens : goal.decreases-tokens
decreases-tokens g l = held_room (g.F.Files.shelf l.files) l.self
