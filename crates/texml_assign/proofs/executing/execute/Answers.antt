use Rattle.texml_assign.proofs.executing.execute.Goals as goal

pub returns-clause-lower : goal.returns-clause-lower
returns-clause-lower g c = λ running. c.execute_meaning.ensures.does.shrinks
