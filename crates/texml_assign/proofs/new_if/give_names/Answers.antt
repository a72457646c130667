use Rattle.texml_assign.proofs.Worlds.{names_state, names_kept}
use Rattle.texml_assign.proofs.new_if.give_names.Goals as goal

pub returns-in-Ok-clause-same : goal.returns-in-Ok-clause-same
returns-in-Ok-clause-same c = λ shelf. names_state shelf c.args.engine.now c.conditional_names.new.names c.requires.sound (rw c.names.ensures.value at c.in-Ok.ensures.grows)

pub returns-in-Ok-clause-keeps : goal.returns-in-Ok-clause-keeps
returns-in-Ok-clause-keeps c = names_kept c.args.engine.now c.conditional_names.new.names c.requires.sound (rw c.names.ensures.value at c.in-Ok.ensures.grows) c.in-Ok.ensures.numbered
