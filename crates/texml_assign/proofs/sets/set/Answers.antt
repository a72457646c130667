use Rattle.texml_expand.proofs.Running.{files_stopped}
use Rattle.texml_assign.proofs.Doing.{files_then}
use Rattle.texml_assign.proofs.Worlds.{set_state, set_room, scope_kept, set_covered, advances_wrote, advances_stops, puts_scope, files_wrote}
use Rattle.texml_assign.proofs.sets.set.Goals as goal

pub returns-in-Ok-clause-sets : goal.returns-in-Ok-clause-sets
returns-in-Ok-clause-sets c = λ shelf.
    set_state shelf c.args.engine.now c.wrote.new.self c.set_value-set.new.scope c.args.global c.args.key c.args.value _ c.requires.sound c.requires.key (rw c.scope.ensures.value at c.in-Ok.ensures.ok) c.wrote.ensures

pub returns-in-Ok-clause-keeps : goal.returns-in-Ok-clause-keeps
returns-in-Ok-clause-keeps c =
    let h = c.args.engine.now in
    let covered = set_covered h c.set_value-set.new.scope c.args.global c.args.key c.args.value c.requires.sound c.requires.key c.requires.value (rw c.scope.ensures.value at c.in-Ok.ensures.ok) in
    scope_kept h c.wrote.new.self c.set_value-set.new.scope _ c.requires.sound covered c.wrote.ensures

pub returns-in-Ok-clause-advances : goal.returns-in-Ok-clause-advances
returns-in-Ok-clause-advances c = advances_wrote c.args.engine.now c.wrote.new.self c.set_value-set.new.scope _ c.wrote.ensures

pub returns-in-Ok-clause-files : goal.returns-in-Ok-clause-files
returns-in-Ok-clause-files c = files_wrote c.args.engine.now c.wrote.new.self c.set_value-set.new.scope _ c.wrote.ensures

pub returns-in-Ok-clause-puts : goal.returns-in-Ok-clause-puts
returns-in-Ok-clause-puts c =
    let h = c.args.engine.now in puts_scope 0 h c.wrote.new.self c.set_value-set.new.scope _ (set_room h c.set_value-set.new.scope c.args.global c.args.key c.args.value (rw c.scope.ensures.value at c.in-Ok.ensures.ok)) c.wrote.ensures

pub returns-in-Err-clause-advances : goal.returns-in-Err-clause-advances
returns-in-Err-clause-advances c = advances_stops c.args.engine.now c.wrote.new.self c.no_memory.new.self c.set_value-set.new.scope _ _ c.wrote.ensures c.no_memory.ensures.kept

pub returns-in-Err-clause-files : goal.returns-in-Err-clause-files
returns-in-Err-clause-files c = files_then (files_wrote c.args.engine.now c.wrote.new.self c.set_value-set.new.scope _ c.wrote.ensures) (files_stopped c.wrote.new.self c.no_memory.new.self _ c.no_memory.ensures.kept)
