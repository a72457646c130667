use Rattle.texml_token.specs.Numbers.{tokens_at}
use Rattle.texml_expand.specs.Hearing.{hears, hears_part}
use Rattle.texml_expand.proofs.Meeting.{stops_untold, stops_of}
use Rattle.texml_expand.proofs.Absorbing.{absorb_expanding, absorb_plain}
use Rattle.texml_expand.proofs.engine.Engine.absorb.Goals as goal

pub returns-then-expanding-clause-follows : goal.returns-then-expanding-clause-follows
returns-then-expanding-clause-follows g c = λ running.
    let T = g.T.Teller in
    (absorb_expanding (hears T.wanting T.heard) (hears_part T.wanting T.part) c.args.expanding _ _ _ _ _ _ _ c.if-expanding.true c.absorb_expanded.ensures.does).follows

pub returns-else-expanding-clause-follows : goal.returns-else-expanding-clause-follows
returns-else-expanding-clause-follows g c = λ running.
    let T = g.T.Teller in
    let tell = c.args.tell.now in
    (absorb_plain (hears T.wanting T.heard) (hears_part T.wanting T.part) c.args.expanding _ c.args.self.now c.absorb_group.new.self _ _ _ _ (T.faults tell) (T.loan tell) tell c.if-expanding.false c.absorb_group.ensures.gets).follows

pub returns-else-expanding-clause-stops : goal.returns-else-expanding-clause-stops
returns-else-expanding-clause-stops g c = λ running. stops_untold c.absorb_group.result _ _ _ _ _ _ _ (stops_of (tokens_at c.absorb_group.new.self.names) c.absorb_group.result _ _ _ c.absorb_group.ensures.gets.stops)

pub returns-then-expanding-clause-spends : goal.returns-then-expanding-clause-spends
returns-then-expanding-clause-spends g c = λ running.
    let T = g.T.Teller in
    (absorb_expanding (hears T.wanting T.heard) (hears_part T.wanting T.part) c.args.expanding _ _ _ _ _ _ _ c.if-expanding.true c.absorb_expanded.ensures.does).spends

pub returns-else-expanding-clause-spends : goal.returns-else-expanding-clause-spends
returns-else-expanding-clause-spends g c = λ running.
    let T = g.T.Teller in
    let tell = c.args.tell.now in
    (absorb_plain (hears T.wanting T.heard) (hears_part T.wanting T.part) c.args.expanding _ c.args.self.now c.absorb_group.new.self _ _ _ _ (T.faults tell) (T.loan tell) tell c.if-expanding.false c.absorb_group.ensures.gets).spends
