use Rattle.texml_model.specs.Rules.{rules_of}
use Rattle.texml_build.specs.Held.{held_of}
use Rattle.texml_build.proofs.Grows.{grown, stays_refused}
use Rattle.texml_build.proofs.growing.advance.Goals as goal

pub returns-in-Err-clause-does : goal.returns-in-Err-clause-does
returns-in-Err-clause-does c = λ ops d. stays_refused (rules_of c.args.content.now) ops c.args.op.now _ (held_of c.args.builder.now) c.args.state c.in-Err.fault d c.in-Err.is

pub returns-in-Ok-clause-does : goal.returns-in-Ok-clause-does
returns-in-Ok-clause-does c = λ ops d. grown (rules_of c.args.content.now) ops c.args.op.now _ (held_of c.args.builder.now) (held_of c.step.new.self) c.args.state c.step.result d c.in-Ok.is c.step.ensures
