use Rattle.std.proofs.Common.{refl}
use Rattle.texml_assign.proofs.Worlds.{begun_state, begun_covered, begun_room, scope_kept, puts_scope, files_wrote}
use Rattle.texml_assign.proofs.sets.begin_group.Goals as goal

pub returns-in-Ok-clause-begins : goal.returns-in-Ok-clause-begins
returns-in-Ok-clause-begins c = λ shelf. begun_state shelf c.args.engine.now c.begin.new.self c.args.kind (rw c.scope.ensures.value at c.in-Ok.ensures.ok)

pub returns-in-Ok-clause-keeps : goal.returns-in-Ok-clause-keeps
returns-in-Ok-clause-keeps c =
    let h = c.args.engine.now in
    scope_kept h (record h { scope = c.begin.new.self }) c.begin.new.self h.writes c.requires.sound (begun_covered h c.begin.new.self c.args.kind c.requires.sound c.requires.kind (rw c.scope.ensures.value at c.in-Ok.ensures.ok)) refl

pub returns-in-Ok-clause-files : goal.returns-in-Ok-clause-files
returns-in-Ok-clause-files c = let h = c.args.engine.now in files_wrote h (record h { scope = c.begin.new.self }) c.begin.new.self h.writes refl

pub returns-in-Ok-clause-puts : goal.returns-in-Ok-clause-puts
returns-in-Ok-clause-puts c =
    let h = c.args.engine.now in puts_scope 0 h (record h { scope = c.begin.new.self }) c.begin.new.self h.writes (begun_room h c.begin.new.self c.args.kind (rw c.scope.ensures.value at c.in-Ok.ensures.ok)) refl
