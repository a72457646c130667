use Rattle.texml_expand.specs.Hearing.{hears, hears_part}
use Rattle.texml_expand.proofs.Meeting.{part_untold}
use Rattle.texml_expand.proofs.engine.Engine.finish_frozen.Goals as goal

pub returns-in-Err-clause-finishes : goal.returns-in-Err-clause-finishes
returns-in-Err-clause-finishes g c = rw c.no_memory.ensures.is (λ shelf. part_untold (hears g.T.Teller.wanting g.T.Teller.heard) (hears_part g.T.Teller.wanting g.T.Teller.part) _ c.args.tell.now)

pub returns-clause-finishes : goal.returns-clause-finishes
returns-clause-finishes g c = rw c.no_memory-in-Err-back.ensures.is (λ shelf. part_untold (hears g.T.Teller.wanting g.T.Teller.heard) (hears_part g.T.Teller.wanting g.T.Teller.part) _ c.args.tell.now)
