use Rattle.texml_expand.proofs.Meeting.{stops_untold}
use Rattle.texml_expand.proofs.engine.Engine.read_sign.Goals as goal

pub returns-clause-stops : goal.returns-clause-stops
returns-clause-stops g c = λ running. stops_untold c.sign.result _ _ _ _ _ _ _ c.sign.ensures.gets.stops
