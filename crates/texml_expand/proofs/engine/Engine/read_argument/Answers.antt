use Rattle.texml_token.specs.Numbers.{tokens_at}
use Rattle.texml_expand.proofs.Meeting.{stops_untold, stops_of}
use Rattle.texml_expand.proofs.engine.Engine.read_argument.Goals as goal

pub returns-clause-stops : goal.returns-clause-stops
returns-clause-stops g c = λ running. stops_untold c.argument.result _ _ _ _ _ _ _ (stops_of (tokens_at c.argument.new.self.names) c.argument.result _ _ _ c.argument.ensures.gets.stops)

pub returns-clause-spends : goal.returns-clause-spends
returns-clause-spends g c = λ running. rw c.new-delimiter.ensures at c.argument.ensures.gets.spends
