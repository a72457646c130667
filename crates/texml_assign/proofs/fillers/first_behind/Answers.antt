use Rattle.std.proofs.Common.{Bool, if◌then◌else◌, Ok, Err, None, Some, refl, sym, ap, ◌∙◌, arith}
use Rattle.std.specs.Option.{option_map}
use Rattle.texml_expand.specs.State.{Done, give, nothing}
use Rattle.texml_expand.specs.Held.{state_of}
use Rattle.texml_expand.specs.Fronts.{looked_at}
use Rattle.texml_expand.specs.Expand.{look}
use Rattle.texml_expand.specs.Hearing.{hears, hears_part}
use Rattle.texml_assign.specs.Loop.{On, Over}
use Rattle.texml_assign.specs.Fillers.{filler_turn, filler_loop}
use Rattle.texml_assign.proofs.Readings.{plain_give}
use Rattle.texml_expand.proofs.Running.{shrinks_then}
use Rattle.texml_expand.proofs.Stopping.{passed_on}
use Rattle.texml_assign.proofs.Doing.{does_call, does_now, does_out, goes_stops, goes_ends, goes_turn_stops, goes_over, goes_on, no_more, shrinks_on}
use Rattle.texml_assign.proofs.Quantities.{plain_filler_turn, filler_laws}
use Rattle.texml_assign.proofs.fillers.first_behind.Goals as goal

pub returns-in_err-looked-clause-does : goal.returns-in_err-looked-clause-does
returns-in_err-looked-clause-does g c =
    let i = c.tokens.invariant in let run = i.going.running in let f = c.in_err-looked.ensures in let mid = c.look.new.self in let q = c.args.filler in
    let s = does_call (hears g.T.Teller.wanting g.T.Teller.heard) (hears_part g.T.Teller.wanting g.T.Teller.part) look (option_map (looked_at mid.names)) (Err c.in_err-looked.field-0.0) c.tokens.engine mid _ _ _ _ (f.follows run) (f.spends run) (f.stops run) (f.limit run) tt f.progress f.holds tt in
    let h = goes_stops _ _ (filler_loop q) (filler_laws q) _ tt tt _ _ _ _ _ _ _ _ _ i.going s in
    rw (passed_on c.from_residual.result c.in_err-looked.field-0.0 c.from_residual.ensures) h

pub returns-in-None-clause-does : goal.returns-in-None-clause-does
returns-in-None-clause-does g c =
    let i = c.tokens.invariant in let run = i.going.running in let f = c.in_ok-looked.ensures in let mid = c.look.new.self in let q = c.args.filler in
    let s = rw c.in-None.is at (does_call (hears g.T.Teller.wanting g.T.Teller.heard) (hears_part g.T.Teller.wanting g.T.Teller.part) look (option_map (looked_at mid.names)) _ c.tokens.engine mid _ _ _ _ (f.follows run) (f.spends run) (f.stops run) tt (f.keeps run) f.progress f.holds (no_more (f.lower run))) in
    goes_ends _ _ (filler_loop q) (filler_laws q) (Ok None) tt tt _ _ mid mid _ _ _ _ _ _ _ _ i.going s
    (does_now _ _ (give None) (plain_give None) None mid _ _ s.keeps.sound s.holds.owns s.stops.kept (λ shelf. refl))

pub returns-then-not-passes-clause-does : goal.returns-then-not-passes-clause-does
returns-then-not-passes-clause-does g c =
    let i = c.tokens.invariant in let run = i.going.running in let f = c.in_ok-looked.ensures in let mid = c.look.new.self in let q = c.args.filler in
    let s = rw c.in-Some.is at (does_call (hears g.T.Teller.wanting g.T.Teller.heard) (hears_part g.T.Teller.wanting g.T.Teller.part) look (option_map (looked_at mid.names)) _ c.tokens.engine mid _ _ _ _ (f.follows run) (f.spends run) (f.stops run) tt (f.keeps run) f.progress f.holds (no_more (f.lower run))) in
    let x = looked_at mid.names c.in-Some.looked in
    goes_over _ _ (filler_loop q) (filler_laws q) x (Some x) tt tt _ _ mid mid _ _ _ _ _ _ _ _ i.going s
    (does_now _ _ (λ s. filler_turn q tt x 0 s) (plain_filler_turn q tt x) (Over (Some x)) mid _ _ s.keeps.sound s.holds.owns s.stops.kept (λ shelf. ap (λ (b : Bool). Done (if b then On tt else Over (Some x)) (state_of shelf mid) nothing) (sym c.in-Ok.ensures ∙ c.if-not-passes.true)))

pub returns-in-Err-clause-does : goal.returns-in-Err-clause-does
returns-in-Err-clause-does g c =
    let i = c.tokens.invariant in let run = i.going.running in let f = c.in_ok-looked.ensures in let mid = c.look.new.self in let q = c.args.filler in
    let s = rw c.in-Some.is at (does_call (hears g.T.Teller.wanting g.T.Teller.heard) (hears_part g.T.Teller.wanting g.T.Teller.part) look (option_map (looked_at mid.names)) _ c.tokens.engine mid _ _ _ _ (f.follows run) (f.spends run) (f.stops run) tt (f.keeps run) f.progress f.holds (no_more (f.lower run))) in
    let x = looked_at mid.names c.in-Some.looked in
    goes_turn_stops _ _ (filler_loop q) (filler_laws q) x _ tt tt _ _ mid c.no_memory.new.self _ _ _ _ _ _ _ _ i.going s
    (does_out _ _ ((filler_loop q).turn tt x) ((filler_laws q).turn tt x) c.no_memory.result mid c.no_memory.new.self _ _ s.keeps.sound s.holds.owns c.no_memory.ensures.is c.no_memory.ensures.kept)

pub rounds-smaller : goal.rounds-smaller
rounds-smaller g c =
    let i = c.tokens.invariant in let run = i.going.running in
    let l = rw c.in-Some.is at (c.in_ok-looked.ensures.lower run) in
    let ne = c.if-begun.true in let is = c.begun.ensures in let begun = i.begun in let same = i.same in let limit = i.limit in let low = l.begun in let lim = l.limit in
    let w = l.within (omega (arith, ne)) in
    omega (arith, ne)

pub tokens-smaller : goal.tokens-smaller
tokens-smaller g c =
    let i = c.tokens.invariant in
    let l = rw c.in-Some.is at (c.in_ok-looked.ensures.lower i.going.running) in
    let size = l.room (sym c.begun.ensures ∙ c.if-begun.false ∙ sym i.begun) in
    omega arith

pub rounds-preserved : goal.rounds-preserved
rounds-preserved g c =
    let i = c.tokens.invariant in let run = i.going.running in let f = c.in_ok-looked.ensures in let mid = c.look.new.self in let q = c.args.filler in
    let s = rw c.in-Some.is at (does_call (hears g.T.Teller.wanting g.T.Teller.heard) (hears_part g.T.Teller.wanting g.T.Teller.part) look (option_map (looked_at mid.names)) _ c.tokens.engine mid _ _ _ _ (f.follows run) (f.spends run) (f.stops run) tt (f.keeps run) f.progress f.holds (no_more (f.lower run))) in
    let x = looked_at mid.names c.in-Some.looked in
    record {
      going = goes_on _ _ (filler_loop q) (filler_laws q) x tt tt tt _ _ mid mid _ _ _ _ _ _ _ _ i.going s
          (does_now _ _ (λ s. filler_turn q tt x 0 s) (plain_filler_turn q tt x) (On tt) mid _ _ s.keeps.sound s.holds.owns s.stops.kept (λ shelf. ap (λ (b : Bool). Done (if b then On tt else Over (Some x)) (state_of shelf mid) nothing) (sym c.in-Ok.ensures ∙ c.if-not-passes.false)));
    }

pub tokens-preserved : goal.tokens-preserved
tokens-preserved g c =
    let i = c.tokens.invariant in let run = i.going.running in let f = c.in_ok-looked.ensures in let mid = c.look.new.self in let q = c.args.filler in
    let s = rw c.in-Some.is at (does_call (hears g.T.Teller.wanting g.T.Teller.heard) (hears_part g.T.Teller.wanting g.T.Teller.part) look (option_map (looked_at mid.names)) _ c.tokens.engine mid _ _ _ _ (f.follows run) (f.spends run) (f.stops run) tt (f.keeps run) f.progress f.holds (no_more (f.lower run))) in
    let x = looked_at mid.names c.in-Some.looked in
    let l = rw c.in-Some.is at (f.lower run) in
    record {
      going = goes_on _ _ (filler_loop q) (filler_laws q) x tt tt tt _ _ mid mid _ _ _ _ _ _ _ _ i.going s
          (does_now _ _ (λ s. filler_turn q tt x 0 s) (plain_filler_turn q tt x) (On tt) mid _ _ s.keeps.sound s.holds.owns s.stops.kept (λ shelf. ap (λ (b : Bool). Done (if b then On tt else Over (Some x)) (state_of shelf mid) nothing) (sym c.in-Ok.ensures ∙ c.if-not-passes.false)));
      begun = sym c.begun.ensures ∙ c.if-begun.false;
      same = i.same;
      limit = l.limit ∙ i.limit;
    }

pub returns-in-None-clause-takes : goal.returns-in-None-clause-takes
returns-in-None-clause-takes g c =
    let i = c.tokens.invariant in let run = i.going.running in shrinks_on i.going.shrinks (rw c.in-None.is at (c.in_ok-looked.ensures.lower run))

pub returns-then-not-passes-clause-takes : goal.returns-then-not-passes-clause-takes
returns-then-not-passes-clause-takes g c =
    let i = c.tokens.invariant in let run = i.going.running in shrinks_then 0 1 1 _ _ _ _ _ _ i.going.shrinks (rw c.in-Some.is at (c.in_ok-looked.ensures.lower run)) (omega arith)
