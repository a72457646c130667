use Rattle.std.proofs.Common.{Err, refl, sym, ◌∙◌, arith}
use Rattle.std.specs.Option.{option_map}
use Rattle.texml_token.specs.Numbers.{token_at}
use Rattle.texml_token.specs.declared.fault_code.TheConstants.{FILE_ENDED, BAD_PREFIX}
use Rattle.texml_expand.specs.Expand.{fetch}
use Rattle.texml_expand.specs.Hearing.{hears, hears_part}
use Rattle.texml_assign.specs.declared.table.Command.{Command as CommandWord}
use Rattle.texml_assign.specs.declared.table.Prefixes.{Prefixes}
use Rattle.texml_assign.specs.Loop.{On, Over}
use Rattle.texml_assign.specs.Execute.{prefix_turn, prefix_loop}
use Rattle.texml_expand.proofs.Stopping.{passed_on}
use Rattle.texml_assign.proofs.Doing.{does_call, does_now, does_out, does_fault, goes_stops, goes_ends, goes_turn_stops, goes_over, goes_on, no_more}
use Rattle.texml_assign.proofs.Commands.{plain_prefix_turn, prefix_laws}
use Rattle.texml_assign.proofs.executing.prefixed.Goals as goal

pub returns-in_err-token : goal.returns-in_err-token
returns-in_err-token g c =
    let i = c.tokens.invariant in let run = i.going.running in let f = c.in_err-token.ensures in let mid = c.fetch.new.self in
    let s = does_call (hears g.T.Teller.wanting g.T.Teller.heard) (hears_part g.T.Teller.wanting g.T.Teller.part) fetch (option_map (token_at mid.names)) (Err c.in_err-token.field-0.0) c.tokens.engine mid _ _ _ _ (f.follows run) (f.spends run) (f.stops run) (f.limit run) tt f.progress f.holds tt in
    let h = goes_stops _ _ prefix_loop prefix_laws _ c.args.first c.tokens.prefixes _ _ _ _ _ _ _ _ _ i.going s in record { does = rw (passed_on c.from_residual.result c.in_err-token.field-0.0 c.from_residual.ensures) h }

pub returns-in-None : goal.returns-in-None
returns-in-None g c = record {
  does =
      let i = c.tokens.invariant in let run = i.going.running in let f = c.in_ok-token.ensures in let mid = c.fetch.new.self in
      let s = rw c.in-None.is at (does_call (hears g.T.Teller.wanting g.T.Teller.heard) (hears_part g.T.Teller.wanting g.T.Teller.part) fetch (option_map (token_at mid.names)) _ c.tokens.engine mid _ _ _ _ (f.follows run) (f.spends run) (f.stops run) tt (f.keeps run) f.progress f.holds (no_more (f.lower run))) in
      goes_ends _ _ prefix_loop prefix_laws _ c.args.first c.tokens.prefixes _ _ mid c.bare_fault.new.self _ _ _ _ _ _ _ _ i.going s
      (does_fault _ _ (prefix_loop.end c.tokens.prefixes) (prefix_laws.end c.tokens.prefixes) FILE_ENDED c.bare_fault.result mid c.bare_fault.new.self _ _ s.holds.owns (λ shelf. refl) c.bare_fault.ensures.is c.bare_fault.ensures.kept);
}

pub returns-in-Ok-Command : goal.returns-in-Ok-Command
returns-in-Ok-Command g c = record {
  does =
      let i = c.tokens.invariant in let run = i.going.running in let f = c.in_ok-token.ensures in let mid = c.fetch.new.self in
      let s = rw c.in-Some.is at (does_call (hears g.T.Teller.wanting g.T.Teller.heard) (hears_part g.T.Teller.wanting g.T.Teller.part) fetch (option_map (token_at mid.names)) _ c.tokens.engine mid _ _ _ _ (f.follows run) (f.spends run) (f.stops run) tt (f.keeps run) f.progress f.holds (no_more (f.lower run))) in
      let t = token_at mid.names c.in-Some.token in let p = c.tokens.prefixes in
      let v : Prefixes × CommandWord = (p, c.in-Ok-Command.command) in
      goes_over _ _ prefix_loop prefix_laws t v c.args.first p _ _ mid mid _ _ _ _ _ _ _ _ i.going s
      (does_now _ _ (λ s. prefix_turn p t 0 s) (plain_prefix_turn p t) (Over v) mid _ _ s.keeps.sound s.holds.owns s.stops.kept (rw c.in-Ok-Command.field-0-is at c.in-Ok-Command.ensures));
}

pub returns-in-Ok-Misfit : goal.returns-in-Ok-Misfit
returns-in-Ok-Misfit g c = record {
  does =
      let i = c.tokens.invariant in let run = i.going.running in let f = c.in_ok-token.ensures in let mid = c.fetch.new.self in
      let s = rw c.in-Some.is at (does_call (hears g.T.Teller.wanting g.T.Teller.heard) (hears_part g.T.Teller.wanting g.T.Teller.part) fetch (option_map (token_at mid.names)) _ c.tokens.engine mid _ _ _ _ (f.follows run) (f.spends run) (f.stops run) tt (f.keeps run) f.progress f.holds (no_more (f.lower run))) in
      let t = token_at mid.names c.in-Some.token in let p = c.tokens.prefixes in
      goes_turn_stops _ _ prefix_loop prefix_laws t _ c.args.first p _ _ mid c.bare_fault-in-Ok-Misfit.new.self _ _ _ _ _ _ _ _ i.going s
      (does_fault _ _ (λ s. prefix_turn p t 0 s) (plain_prefix_turn p t) BAD_PREFIX c.bare_fault-in-Ok-Misfit.result mid c.bare_fault-in-Ok-Misfit.new.self _ _ s.holds.owns (rw c.in-Ok-Misfit.field-0-is at c.in-Ok-Misfit.ensures) c.bare_fault-in-Ok-Misfit.ensures.is c.bare_fault-in-Ok-Misfit.ensures.kept);
}

pub returns-in-Err : goal.returns-in-Err
returns-in-Err g c = record {
  does =
      let i = c.tokens.invariant in let run = i.going.running in let f = c.in_ok-token.ensures in let mid = c.fetch.new.self in
      let s = rw c.in-Some.is at (does_call (hears g.T.Teller.wanting g.T.Teller.heard) (hears_part g.T.Teller.wanting g.T.Teller.part) fetch (option_map (token_at mid.names)) _ c.tokens.engine mid _ _ _ _ (f.follows run) (f.spends run) (f.stops run) tt (f.keeps run) f.progress f.holds (no_more (f.lower run))) in
      let t = token_at mid.names c.in-Some.token in let p = c.tokens.prefixes in
      goes_turn_stops _ _ prefix_loop prefix_laws t _ c.args.first p _ _ mid c.no_memory.new.self _ _ _ _ _ _ _ _ i.going s
      (does_out _ _ (prefix_loop.turn p t) (prefix_laws.turn p t) c.no_memory.result mid c.no_memory.new.self _ _ s.keeps.sound s.holds.owns c.no_memory.ensures.is c.no_memory.ensures.kept);
}

pub rounds-smaller : goal.rounds-smaller
rounds-smaller g c =
    let i = c.tokens.invariant in let run = i.going.running in
    let l = rw c.in-Some.is at (c.in_ok-token.ensures.lower run) in
    let ne = c.if-begun.true in let is = c.begun.ensures in let begun = i.begun in let same = i.same in let limit = i.limit in let low = l.begun in let lim = l.limit in
    let w = l.within (omega (arith, ne)) in
    omega (arith, ne)

pub tokens-smaller : goal.tokens-smaller
tokens-smaller g c =
    let i = c.tokens.invariant in
    let l = rw c.in-Some.is at (c.in_ok-token.ensures.lower i.going.running) in
    let size = l.room (sym c.begun.ensures ∙ c.if-begun.false ∙ sym i.begun) in
    omega arith

pub rounds-preserved : goal.rounds-preserved
rounds-preserved g c =
    let i = c.tokens.invariant in let run = i.going.running in let f = c.in_ok-token.ensures in let mid = c.fetch.new.self in
    let s = rw c.in-Some.is at (does_call (hears g.T.Teller.wanting g.T.Teller.heard) (hears_part g.T.Teller.wanting g.T.Teller.part) fetch (option_map (token_at mid.names)) _ c.tokens.engine mid _ _ _ _ (f.follows run) (f.spends run) (f.stops run) tt (f.keeps run) f.progress f.holds (no_more (f.lower run))) in
    let t = token_at mid.names c.in-Some.token in let p = c.tokens.prefixes in
    record {
      going = goes_on _ _ prefix_loop prefix_laws t c.args.first p c.in-Ok-Prefixes.more _ _ mid mid _ _ _ _ _ _ _ _ i.going s
          (does_now _ _ (λ s. prefix_turn p t 0 s) (plain_prefix_turn p t) (On c.in-Ok-Prefixes.more) mid _ _ s.keeps.sound s.holds.owns s.stops.kept (rw c.in-Ok-Prefixes.field-0-is at c.in-Ok-Prefixes.ensures));
    }

pub tokens-preserved : goal.tokens-preserved
tokens-preserved g c =
    let i = c.tokens.invariant in let run = i.going.running in let f = c.in_ok-token.ensures in let mid = c.fetch.new.self in
    let s = rw c.in-Some.is at (does_call (hears g.T.Teller.wanting g.T.Teller.heard) (hears_part g.T.Teller.wanting g.T.Teller.part) fetch (option_map (token_at mid.names)) _ c.tokens.engine mid _ _ _ _ (f.follows run) (f.spends run) (f.stops run) tt (f.keeps run) f.progress f.holds (no_more (f.lower run))) in
    let t = token_at mid.names c.in-Some.token in let p = c.tokens.prefixes in
    let l = rw c.in-Some.is at (f.lower run) in
    record {
      going = goes_on _ _ prefix_loop prefix_laws t c.args.first p c.in-Ok-Prefixes.more _ _ mid mid _ _ _ _ _ _ _ _ i.going s
          (does_now _ _ (λ s. prefix_turn p t 0 s) (plain_prefix_turn p t) (On c.in-Ok-Prefixes.more) mid _ _ s.keeps.sound s.holds.owns s.stops.kept (rw c.in-Ok-Prefixes.field-0-is at c.in-Ok-Prefixes.ensures));
      begun = sym c.begun.ensures ∙ c.if-begun.false;
      same = i.same;
      limit = l.limit ∙ i.limit;
    }
