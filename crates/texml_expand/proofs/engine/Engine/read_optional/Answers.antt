use Rattle.std.specs.Option.{option_map}
use Rattle.texml_token.specs.Numbers.{tokens_at}
use Rattle.texml_expand.proofs.Meeting.{stops_untold, stops_of}
use Rattle.texml_expand.proofs.engine.Engine.read_optional.Goals as goal

pub returns-clause-stops : goal.returns-clause-stops
returns-clause-stops g c = λ running. stops_untold c.optional.result _ _ _ _ _ _ _ (stops_of (option_map (tokens_at c.optional.new.self.names)) c.optional.result _ _ _ c.optional.ensures.gets.stops)
