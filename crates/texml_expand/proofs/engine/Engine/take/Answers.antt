use Rattle.std.specs.Option.{option_map}
use Rattle.texml_expand.specs.Held.{read_at}
use Rattle.texml_expand.proofs.Meeting.{stops_untold, stops_of}
use Rattle.texml_expand.proofs.engine.Engine.take.Goals as goal

pub returns-clause-stops : goal.returns-clause-stops
returns-clause-stops g c = λ running. stops_untold c.take_front.result _ _ _ _ _ _ _ (stops_of (option_map (read_at c.take_front.new.self.names)) c.take_front.result _ _ _ c.take_front.ensures.gets.stops)
