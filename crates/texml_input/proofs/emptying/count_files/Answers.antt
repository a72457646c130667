use Rattle.std.proofs.Common.{arith}
use Rattle.texml_input.proofs.Sources.{ids_taken}
use Rattle.texml_input.proofs.emptying.count_files.Goals as goal

pub loop-frame-preserved : goal.loop-frame-preserved
loop-frame-preserved c =
    let more = ids_taken c.args.frames.now c.loop-frame.frame-index c.frame-item.result c.loop-frame-test.true c.frame-item.is in
    record { within = omega arith; count = omega arith }
