use Rattle.std.proofs.Common.{rules, arith, ap, refl}
use Rattle.texml_expand.specs.Held.{Held}
use Rattle.texml_expand.proofs.Stopping.{passed_on}
use Rattle.texml_expand.proofs.Fed.{feeding_none, fed_by, feeding_stops, stops_runs, feeding_more, feeding_settled, feeding_fed, feeding_runs, feeding_refuses, refuses_runs, out_runs, feeding_pays, stops_pays, out_pays}
use Rattle.texml_expand.proofs.Running.{files_same, files_stopped}
use Rattle.texml_expand.proofs.engine.Engine.feed.Goals as goal

pub tokens-init : goal.tokens-init
tokens-init g c = feeding_none (g.D.Feeder.judge c.args.feeder.now) c.args.self.now _ c.requires.running c.requires.sound c.requires.owns c.requires.short

pub returns-in_err-token-clause-feeds : goal.returns-in_err-token-clause-feeds
returns-in_err-token-clause-feeds g c =
    let e = c.in_err-token.field-0.0 in
    rw (passed_on c.from_residual.result e c.from_residual.ensures)
    (feeding_stops (g.D.Feeder.judge c.args.feeder.now) (g.D.Feeder.judge c.tokens.feeder) c.args.self.now c.tokens.self c.inner_token.new.self _ _ _ e c.tokens.invariant c.in_err-token.ensures.gets _ _)

pub returns-in_err-token-clause-runs : goal.returns-in_err-token-clause-runs
returns-in_err-token-clause-runs g c =
    let h = stops_runs (g.D.Feeder.judge c.args.feeder.now) (g.D.Feeder.judge c.tokens.feeder) c.args.self.now c.tokens.self c.inner_token.new.self _ _ _ c.in_err-token.field-0.0 c.tokens.invariant c.in_err-token.ensures.gets in
    search (rules, h)

pub tokens-smaller : goal.tokens-smaller
tokens-smaller g c = let s = c.in_ok-token.ensures.lower.room c.in_ok-token.ensures.begun in omega arith

pub tokens-preserved : goal.tokens-preserved
tokens-preserved g c =
    feeding_more (g.D.Feeder.judge c.args.feeder.now) (g.D.Feeder.judge c.tokens.feeder) (g.D.Feeder.judge c.feed.new.self) c.args.self.now c.tokens.self c.inner_token.new.self _ _ _ c.in_ok-token.token c.in-Ok-TooShort.field-0
    c.tokens.invariant c.in_ok-token.ensures.gets c.in_ok-token.ensures.lower c.in_ok-token.ensures.within
    (fed_by _ _ _ _ _ _ (ap (λ (h : Held). h.names) c.self.view_is) c.in-Ok-TooShort.ensures) c.in-Ok-TooShort.field-0-is

pub returns-in-Ok-Yields-clause-feeds : goal.returns-in-Ok-Yields-clause-feeds
returns-in-Ok-Yields-clause-feeds g c =
    feeding_settled (g.D.Feeder.judge c.args.feeder.now) (g.D.Feeder.judge c.tokens.feeder) (g.D.Feeder.judge c.feed.new.self) c.args.self.now c.tokens.self c.inner_token.new.self _ _ _ c.in_ok-token.token c.in-Ok-Yields.field-0
    c.tokens.invariant c.in_ok-token.ensures.gets c.in_ok-token.ensures.lower c.in_ok-token.ensures.within
    (fed_by _ _ _ _ _ _ (ap (λ (h : Held). h.names) c.self.view_is) c.in-Ok-Yields.ensures) c.in-Ok-Yields.value c.in-Ok-Yields.field-0-is

pub returns-in-Ok-Yields-clause-lower : goal.returns-in-Ok-Yields-clause-lower
returns-in-Ok-Yields-clause-lower g c =
    feeding_fed (g.D.Feeder.judge c.args.feeder.now) (g.D.Feeder.judge c.tokens.feeder) (g.D.Feeder.judge c.feed.new.self) c.args.self.now c.tokens.self c.inner_token.new.self _ _ _ c.in_ok-token.token c.in-Ok-Yields.field-0
    c.tokens.invariant c.in_ok-token.ensures.gets c.in_ok-token.ensures.lower c.in_ok-token.ensures.within
    (fed_by _ _ _ _ _ _ (ap (λ (h : Held). h.names) c.self.view_is) c.in-Ok-Yields.ensures) c.in-Ok-Yields.value c.in-Ok-Yields.field-0-is

pub returns-in-Ok-Yields-clause-runs : goal.returns-in-Ok-Yields-clause-runs
returns-in-Ok-Yields-clause-runs g c =
    feeding_runs (g.D.Feeder.judge c.args.feeder.now) (g.D.Feeder.judge c.tokens.feeder) (g.D.Feeder.judge c.feed.new.self) c.args.self.now c.tokens.self c.inner_token.new.self _ _ _ c.in_ok-token.token c.in-Ok-Yields.field-0
    c.tokens.invariant c.in_ok-token.ensures.gets c.in_ok-token.ensures.lower c.in_ok-token.ensures.within
    (fed_by _ _ _ _ _ _ (ap (λ (h : Held). h.names) c.self.view_is) c.in-Ok-Yields.ensures) c.in-Ok-Yields.value

pub returns-in-Ok-Refuses-clause-feeds : goal.returns-in-Ok-Refuses-clause-feeds
returns-in-Ok-Refuses-clause-feeds g c =
    feeding_refuses (g.D.Feeder.judge c.args.feeder.now) (g.D.Feeder.judge c.tokens.feeder) (g.D.Feeder.judge c.feed.new.self) c.args.self.now c.tokens.self c.inner_token.new.self _ _ _ c.in_ok-token.token c.in-Ok-Refuses.field-0
    c.tokens.invariant c.in_ok-token.ensures.gets c.in_ok-token.ensures.lower c.in_ok-token.ensures.within
    (fed_by _ _ _ _ _ _ (ap (λ (h : Held). h.names) c.self.view_is) c.in-Ok-Refuses.ensures)
    c.in-Ok-Refuses.code c.bare_fault.result _ _ c.in-Ok-Refuses.field-0-is c.bare_fault.ensures.is

pub returns-in-Ok-Refuses-clause-runs : goal.returns-in-Ok-Refuses-clause-runs
returns-in-Ok-Refuses-clause-runs g c =
    refuses_runs (g.D.Feeder.judge c.args.feeder.now) (g.D.Feeder.judge c.tokens.feeder) (g.D.Feeder.judge c.feed.new.self) c.args.self.now c.tokens.self c.inner_token.new.self _ _ _ c.in_ok-token.token c.in-Ok-Refuses.field-0
    c.tokens.invariant c.in_ok-token.ensures.gets c.in_ok-token.ensures.lower c.in_ok-token.ensures.within
    (fed_by _ _ _ _ _ _ (ap (λ (h : Held). h.names) c.self.view_is) c.in-Ok-Refuses.ensures)
    c.in-Ok-Refuses.code c.bare_fault.result c.bare_fault.new.self c.bare_fault.ensures.is c.bare_fault.ensures.kept

pub returns-in-Err-clause-runs : goal.returns-in-Err-clause-runs
returns-in-Err-clause-runs g c =
    out_runs (g.D.Feeder.judge c.args.feeder.now) (g.D.Feeder.judge c.tokens.feeder) c.args.self.now c.tokens.self c.inner_token.new.self c.no_memory.new.self _ _ _ _ c.no_memory.result c.tokens.invariant c.in_ok-token.ensures.gets
    c.no_memory.ensures.is c.no_memory.ensures.kept

pub returns-in_err-token-clause-spends : goal.returns-in_err-token-clause-spends
returns-in_err-token-clause-spends g c =
    let e = c.in_err-token.field-0.0 in
    rw (passed_on c.from_residual.result e c.from_residual.ensures)
    (stops_pays (g.D.Feeder.judge c.args.feeder.now) (g.D.Feeder.judge c.tokens.feeder) c.args.self.now c.tokens.self c.inner_token.new.self _ _ _ e c.tokens.invariant c.in_err-token.ensures.gets)

pub returns-in-Ok-Yields-clause-spends : goal.returns-in-Ok-Yields-clause-spends
returns-in-Ok-Yields-clause-spends g c =
    feeding_pays (g.D.Feeder.judge c.args.feeder.now) (g.D.Feeder.judge c.tokens.feeder) (g.D.Feeder.judge c.feed.new.self) c.args.self.now c.tokens.self c.inner_token.new.self _ _ _ c.in_ok-token.token c.in-Ok-Yields.field-0
    c.tokens.invariant c.in_ok-token.ensures.gets c.in_ok-token.ensures.lower c.in_ok-token.ensures.within
    (fed_by _ _ _ _ _ _ (ap (λ (h : Held). h.names) c.self.view_is) c.in-Ok-Yields.ensures) _ _ (files_same c.inner_token.new.self c.inner_token.new.self refl)

pub returns-in-Ok-Refuses-clause-spends : goal.returns-in-Ok-Refuses-clause-spends
returns-in-Ok-Refuses-clause-spends g c =
    feeding_pays (g.D.Feeder.judge c.args.feeder.now) (g.D.Feeder.judge c.tokens.feeder) (g.D.Feeder.judge c.feed.new.self) c.args.self.now c.tokens.self c.inner_token.new.self _ _ _ c.in_ok-token.token c.in-Ok-Refuses.field-0
    c.tokens.invariant c.in_ok-token.ensures.gets c.in_ok-token.ensures.lower c.in_ok-token.ensures.within
    (fed_by _ _ _ _ _ _ (ap (λ (h : Held). h.names) c.self.view_is) c.in-Ok-Refuses.ensures) _ _ (files_stopped c.inner_token.new.self c.bare_fault.new.self c.bare_fault.result c.bare_fault.ensures.kept)

pub returns-in-Err-clause-spends : goal.returns-in-Err-clause-spends
returns-in-Err-clause-spends g c =
    out_pays (g.D.Feeder.judge c.args.feeder.now) (g.D.Feeder.judge c.tokens.feeder) c.args.self.now c.tokens.self _ _ c.tokens.invariant c.inner_token.new.self c.no_memory.new.self _ _ c.no_memory.result c.in_ok-token.ensures.gets
    c.no_memory.ensures.kept
