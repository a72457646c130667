use Rattle.texml_input.specs.Put.{put_code}
use Rattle.texml_expand.proofs.Fronts.{finished_kept}
use Rattle.texml_expand.proofs.engine.Engine.end.Goals as goal

pub returns-in-Puts-clause-keeps : goal.returns-in-Puts-clause-keeps
returns-in-Puts-clause-keeps g c = finished_kept c.args.self.now c.finish.new.self c.in-Puts.list c.finish.result c.finish.ensures.is c.requires.sound (rw c.in-Puts.is at c.requires.gift)

pub returns-in-Fills-clause-keeps : goal.returns-in-Fills-clause-keeps
returns-in-Fills-clause-keeps g c =
    finished_kept c.args.self.now c.finish_filled.new.self (put_code c.in-Fills.args.items c.in-Fills.body) c.finish_filled.result c.finish_filled.ensures.is c.requires.sound (rw c.in-Fills.is at c.requires.gift)
