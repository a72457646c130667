use Rattle.texml_tests.proofs.Bodies.{pushed}
use Rattle.texml_tests.proofs.input.push_often.Goals as goal

pub loop-preserved : goal.loop-preserved
loop-preserved c = pushed 0 1 c.loop.input c.push_macro.new.self c.args.args.now c.args.body.now c.in_ok-push_macro.ensures.ok c.requires.args c.requires.body c.loop.invariant.0 c.loop.invariant.1
