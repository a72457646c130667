use Rattle.std.proofs.Common.{rules}
use Rattle.std.specs.Char.{IsScalar}
use Rattle.texml_assign.proofs.Worlds.{scope_kept, advances_wrote, advances_stops}
use Rattle.texml_top.proofs.Verbs.{other_state, other_covered}
use Rattle.texml_top.proofs.verb.make_other.Goals as goal

pub returns-in-Ok-clause-sets : goal.returns-in-Ok-clause-sets
returns-in-Ok-clause-sets c =
    let scalar : IsScalar c.args.character = search rules in
    λ shelf. other_state shelf c.args.engine.now c.wrote.new.self c.set-set.new.self _ _ c.requires.sound scalar (rw c.scope.ensures.value at c.in-Ok.ensures.ok) c.wrote.ensures

pub returns-in-Ok-clause-keeps : goal.returns-in-Ok-clause-keeps
returns-in-Ok-clause-keeps c =
    let h = c.args.engine.now in
    let scalar : IsScalar c.args.character = search rules in
    let covered = other_covered h c.set-set.new.self _ c.requires.sound scalar (rw c.scope.ensures.value at c.in-Ok.ensures.ok) in
    scope_kept h c.wrote.new.self c.set-set.new.self _ c.requires.sound covered c.wrote.ensures

pub returns-in-Ok-clause-advances : goal.returns-in-Ok-clause-advances
returns-in-Ok-clause-advances c = advances_wrote c.args.engine.now c.wrote.new.self c.set-set.new.self _ c.wrote.ensures

pub returns-in-Err-clause-advances : goal.returns-in-Err-clause-advances
returns-in-Err-clause-advances c = advances_stops c.args.engine.now c.wrote.new.self c.no_memory.new.self c.set-set.new.self _ _ c.wrote.ensures c.no_memory.ensures.kept
