use Rattle.std.proofs.Common.{Err, refl, sym, subst, ◌∙◌, arith}
use Rattle.std.specs.Option.{option_map}
use Rattle.texml_token.specs.Numbers.{token_at}
use Rattle.texml_expand.specs.State.{give}
use Rattle.texml_expand.specs.Expand.{fetch}
use Rattle.texml_expand.specs.Held.{state_of}
use Rattle.texml_expand.specs.Contract.{outside}
use Rattle.texml_expand.specs.Hearing.{hears, hears_part}
use Rattle.texml_assign.specs.Loop.{On}
use Rattle.texml_assign.proofs.Readings.{plain_give}
use Rattle.texml_assign.proofs.Doing.{Goes, does_call, goes_start, goes_stops, goes_ends, goes_turn_stops, goes_on, does_local, shrinks_on, no_more}
use Rattle.texml_top.specs.declared.gather.Gathered.{Gathered}
use Rattle.texml_top.specs.Gather.{nothing_yet, all_of}
use Rattle.texml_top.specs.Digest.{digestion}
use Rattle.texml_expand.proofs.Stopping.{passed_on}
use Rattle.texml_top.proofs.Digesting.{digestion_laws}
use Rattle.texml_top.proofs.digest.digest.Goals as goal

pub rounds-init : goal.rounds-init
rounds-init g c =
    let x = outside (g.F.Files.shelf c.args.files.now) (g.F.Files.faults c.args.files.now) (g.T.Teller.faults c.args.tell.now) (g.T.Teller.loan c.args.tell.now) in
    record {
      going = subst (λ (l : Gathered). Goes (hears g.T.Teller.wanting g.T.Teller.heard) (hears_part g.T.Teller.wanting g.T.Teller.part) digestion digestion_laws nothing_yet c.args.engine.now x c.args.tell.now l c.args.engine.now x c.args.tell.now) (sym c.new-seen.ensures)
          (goes_start (hears g.T.Teller.wanting g.T.Teller.heard) (hears_part g.T.Teller.wanting g.T.Teller.part) digestion digestion_laws nothing_yet c.args.engine.now x c.args.tell.now c.requires.running c.requires.sound c.requires.owns);
    }

pub returns-in_err-token : goal.returns-in_err-token
returns-in_err-token g c = record {
  does =
      let i = c.tokens.invariant in let run = i.going.running in let f = c.in_err-token.ensures in let mid = c.fetch.new.self in
      let s = does_call (hears g.T.Teller.wanting g.T.Teller.heard) (hears_part g.T.Teller.wanting g.T.Teller.part) fetch (option_map (token_at mid.names)) (Err c.in_err-token.field-0.0) c.tokens.engine mid _ _ _ _ (f.follows run) (f.spends run) (f.stops run) (f.limit run) tt f.progress f.holds tt in
      let h = goes_stops _ _ digestion digestion_laws _ nothing_yet c.tokens.seen _ _ _ _ _ _ _ _ _ i.going s in rw (passed_on c.from_residual.result c.in_err-token.field-0.0 c.from_residual.ensures) h;
}

pub returns-in-None : goal.returns-in-None
returns-in-None g c = record {
  does =
      let i = c.tokens.invariant in let run = i.going.running in let f = c.in_ok-token.ensures in let mid = c.fetch.new.self in let seen = c.tokens.seen in
      let s = rw c.in-None.is at (does_call (hears g.T.Teller.wanting g.T.Teller.heard) (hears_part g.T.Teller.wanting g.T.Teller.part) fetch (option_map (token_at mid.names)) _ c.tokens.engine mid _ _ _ _ (f.follows run) (f.spends run) (f.stops run) tt (f.keeps run) f.progress f.holds (no_more (f.lower run))) in
      let e = c.end_of.ensures in let r = c.end_of.result in let new = c.end_of.new.engine in
      goes_ends _ _ digestion digestion_laws r nothing_yet seen _ _ mid new _ _ _ _ _ _ _ _ i.going s (does_local _ _ (give (all_of seen)) (plain_give (all_of seen)) r mid new _ _ s.holds.owns e.gives e.kept e.keeps e.advances e.files e.puts);
}

pub returns-in_err-digest_turn : goal.returns-in_err-digest_turn
returns-in_err-digest_turn g c = record {
  does =
      let i = c.tokens.invariant in let run = i.going.running in let f = c.in_ok-token.ensures in let mid = c.fetch.new.self in let seen = c.tokens.seen in
      let s = rw c.in-Some.is at (does_call (hears g.T.Teller.wanting g.T.Teller.heard) (hears_part g.T.Teller.wanting g.T.Teller.part) fetch (option_map (token_at mid.names)) _ c.tokens.engine mid _ _ _ _ (f.follows run) (f.spends run) (f.stops run) tt (f.keeps run) f.progress f.holds (no_more (f.lower run))) in
      let t = token_at mid.names c.in-Some.token in
      let h = goes_turn_stops _ _ digestion digestion_laws t _ nothing_yet seen _ _ mid _ _ _ _ _ _ _ _ _ i.going s c.in_err-digest_turn.ensures.does in
      rw (passed_on c.from_residual-in_err-digest_turn.result c.in_err-digest_turn.field-0.0 c.from_residual-in_err-digest_turn.ensures) h;
}

pub rounds-smaller : goal.rounds-smaller
rounds-smaller g c =
    let i = c.tokens.invariant in let run = i.going.running in let f = c.in_ok-token.ensures in let mid = c.fetch.new.self in let seen = c.tokens.seen in
    let s = rw c.in-Some.is at (does_call (hears g.T.Teller.wanting g.T.Teller.heard) (hears_part g.T.Teller.wanting g.T.Teller.part) fetch (option_map (token_at mid.names)) _ c.tokens.engine mid _ _ _ _ (f.follows run) (f.spends run) (f.stops run) tt (f.keeps run) f.progress f.holds (no_more (f.lower run))) in
    let t = token_at mid.names c.in-Some.token in
    let d = c.in_ok-digest_turn.ensures.does in let far = c.digest_turn.new.engine in let more = c.digest_turn.new.seen in
    let l = rw c.in-Some.is at (f.lower run) in let k = d.shrinks in
    let both = shrinks_on (no_more l) k in
    let ne = c.if-begun.true in let is = c.begun.ensures in let begun = i.begun in let same = i.same in let limit = i.limit in let low = both.begun in let lim = both.limit in
    let w = both.within (omega (arith, ne)) in
    omega (arith, ne)

pub tokens-smaller : goal.tokens-smaller
tokens-smaller g c =
    let i = c.tokens.invariant in let run = i.going.running in let f = c.in_ok-token.ensures in let mid = c.fetch.new.self in let seen = c.tokens.seen in
    let s = rw c.in-Some.is at (does_call (hears g.T.Teller.wanting g.T.Teller.heard) (hears_part g.T.Teller.wanting g.T.Teller.part) fetch (option_map (token_at mid.names)) _ c.tokens.engine mid _ _ _ _ (f.follows run) (f.spends run) (f.stops run) tt (f.keeps run) f.progress f.holds (no_more (f.lower run))) in
    let t = token_at mid.names c.in-Some.token in
    let d = c.in_ok-digest_turn.ensures.does in let far = c.digest_turn.new.engine in let more = c.digest_turn.new.seen in
    let l = rw c.in-Some.is at (f.lower run) in let k = d.shrinks in
    let same = sym c.begun.ensures ∙ c.if-begun.false ∙ sym i.begun in let low = l.begun in let low' = k.begun in
    let room = l.room (omega arith) in let room' = k.room (omega arith) in
    omega arith

pub rounds-preserved : goal.rounds-preserved
rounds-preserved g c =
    let i = c.tokens.invariant in let run = i.going.running in let f = c.in_ok-token.ensures in let mid = c.fetch.new.self in let seen = c.tokens.seen in
    let s = rw c.in-Some.is at (does_call (hears g.T.Teller.wanting g.T.Teller.heard) (hears_part g.T.Teller.wanting g.T.Teller.part) fetch (option_map (token_at mid.names)) _ c.tokens.engine mid _ _ _ _ (f.follows run) (f.spends run) (f.stops run) tt (f.keeps run) f.progress f.holds (no_more (f.lower run))) in
    let t = token_at mid.names c.in-Some.token in
    let d = c.in_ok-digest_turn.ensures.does in let far = c.digest_turn.new.engine in let more = c.digest_turn.new.seen in
    record {
      going = goes_on _ _ digestion digestion_laws t nothing_yet seen more _ _ mid far _ _ _ _ _ _ _ _ i.going s d;
    }

pub tokens-preserved : goal.tokens-preserved
tokens-preserved g c =
    let i = c.tokens.invariant in let run = i.going.running in let f = c.in_ok-token.ensures in let mid = c.fetch.new.self in let seen = c.tokens.seen in
    let s = rw c.in-Some.is at (does_call (hears g.T.Teller.wanting g.T.Teller.heard) (hears_part g.T.Teller.wanting g.T.Teller.part) fetch (option_map (token_at mid.names)) _ c.tokens.engine mid _ _ _ _ (f.follows run) (f.spends run) (f.stops run) tt (f.keeps run) f.progress f.holds (no_more (f.lower run))) in
    let t = token_at mid.names c.in-Some.token in
    let d = c.in_ok-digest_turn.ensures.does in let far = c.digest_turn.new.engine in let more = c.digest_turn.new.seen in
    let l = rw c.in-Some.is at (f.lower run) in let k = d.shrinks in
    record {
      going = goes_on _ _ digestion digestion_laws t nothing_yet seen more _ _ mid far _ _ _ _ _ _ _ _ i.going s d;
      begun = sym c.begun.ensures ∙ c.if-begun.false;
      same = i.same;
      limit = k.limit ∙ l.limit ∙ i.limit;
    }
