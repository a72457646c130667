use Rattle.texml_base.proofs.Taking.{takes_then, takes_first}
use Rattle.texml_watch.proofs.lines.write_both.Goals as goal

pub returns-in-Ok-clause-written : goal.returns-in-Ok-clause-written
returns-in-Ok-clause-written g c =
    takes_then _ _ _ _ c.args.first.now c.args.second.now c.in-Ok.ensures.written c.write-in-Ok.ensures.written

pub returns-in-Err-clause-written : goal.returns-in-Err-clause-written
returns-in-Err-clause-written g c = takes_first _ _ c.args.first.now c.args.second.now c.in-Err.ensures.written
