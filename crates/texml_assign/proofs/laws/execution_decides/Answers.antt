use Rattle.texml_expand.proofs.Readings.{agree}
use Rattle.texml_assign.specs.Execute.{execute}
use Rattle.texml_assign.proofs.Commands.{lawful_execute}
use Rattle.texml_assign.proofs.laws.execution_decides.Goals as goal

pub returns-clause-decides : goal.returns-clause-decides
returns-clause-decides c = λ t s. let d = (lawful_execute t).settles s in (d.at, d.decided)

pub returns-clause-once : goal.returns-clause-once
returns-clause-once c = λ t s. agree (λ n. execute t n s) ((lawful_execute t).mono s)
