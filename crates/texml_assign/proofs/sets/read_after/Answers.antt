use Rattle.std.proofs.Common.{refl}
use Rattle.texml_assign.proofs.Worlds.{after_state, after_covered, after_room, scope_kept, puts_scope, files_wrote}
use Rattle.texml_assign.proofs.sets.read_after.Goals as goal

pub returns-in-Ok-clause-keeps_token : goal.returns-in-Ok-clause-keeps_token
returns-in-Ok-clause-keeps_token c = λ shelf. after_state shelf c.args.engine.now c.after_group.new.self c.args.token (rw c.scope.ensures.value at c.in-Ok.ensures.ok)

pub returns-in-Ok-clause-keeps : goal.returns-in-Ok-clause-keeps
returns-in-Ok-clause-keeps c =
    let h = c.args.engine.now in
    scope_kept h (record h { scope = c.after_group.new.self }) c.after_group.new.self h.writes c.requires.sound (after_covered h c.after_group.new.self c.args.token c.requires.sound c.requires.token (rw c.scope.ensures.value at c.in-Ok.ensures.ok)) refl

pub returns-in-Ok-clause-files : goal.returns-in-Ok-clause-files
returns-in-Ok-clause-files c = let h = c.args.engine.now in files_wrote h (record h { scope = c.after_group.new.self }) c.after_group.new.self h.writes refl

pub returns-in-Ok-clause-puts : goal.returns-in-Ok-clause-puts
returns-in-Ok-clause-puts c =
    let h = c.args.engine.now in puts_scope 1 h (record h { scope = c.after_group.new.self }) c.after_group.new.self h.writes (after_room h c.after_group.new.self c.args.token (rw c.scope.ensures.value at c.in-Ok.ensures.ok)) refl
