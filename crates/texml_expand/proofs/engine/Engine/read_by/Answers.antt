use Rattle.texml_expand.proofs.Meeting.{stops_untold}
use Rattle.texml_expand.proofs.engine.Engine.read_by.Goals as goal

pub returns-clause-stops : goal.returns-clause-stops
returns-clause-stops g c = λ running. stops_untold c.feed.result _ _ _ _ _ _ _ c.feed.ensures.runs.stops
