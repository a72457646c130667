use Rattle.std.proofs.Common.{true, false, refl, sym, ◌∙◌, arith}
use Rattle.texml_token.specs.Numbers.{token_at}
use Rattle.texml_token.specs.declared.fault_code.TheConstants.{FILE_ENDED}
use Rattle.texml_expand.specs.Held.{state_of}
use Rattle.texml_assign.specs.Loop.{On, Over}
use Rattle.texml_assign.specs.Operands.{space_turn, spaces_loop}
use Rattle.texml_expand.proofs.Stopping.{passed_on}
use Rattle.texml_assign.proofs.Doing.{does_now, does_out, does_fault, goes_stops, goes_ends, goes_turn_stops, goes_over, goes_on}
use Rattle.texml_assign.proofs.Commands.{plain_space_turn, space_is, spaces_laws}
use Rattle.texml_assign.proofs.operands.behind_spaces.Goals as goal

pub returns-in_err-token-clause-does : goal.returns-in_err-token-clause-does
returns-in_err-token-clause-does g c =
    let h = goes_stops _ _ spaces_loop spaces_laws _ tt tt _ _ _ _ _ _ _ _ _ c.spaces.invariant.going c.in_err-token.ensures.does in rw (passed_on c.from_residual.result c.in_err-token.field-0.0 c.from_residual.ensures) h

pub returns-in-None-clause-does : goal.returns-in-None-clause-does
returns-in-None-clause-does g c =
    let mid = c.token_or_end.new.engine in
    goes_ends _ _ spaces_loop spaces_laws _ tt tt _ _ mid c.bare_fault.new.self _ _ _ _ _ _ _ _ c.spaces.invariant.going (rw c.in-None.is at c.in_ok-token.ensures.does)
    (does_fault _ _ (spaces_loop.end tt) (spaces_laws.end tt) FILE_ENDED c.bare_fault.result mid c.bare_fault.new.self _ _ c.in_ok-token.ensures.does.holds.owns (λ shelf. refl) c.bare_fault.ensures.is c.bare_fault.ensures.kept)

pub returns-in-Err-clause-does : goal.returns-in-Err-clause-does
returns-in-Err-clause-does g c =
    let mid = c.token_or_end.new.engine in let s = rw c.in-Some.is at c.in_ok-token.ensures.does in let t = token_at mid.names c.in-Some.token in
    goes_turn_stops _ _ spaces_loop spaces_laws t _ tt tt _ _ mid c.no_memory.new.self _ _ _ _ _ _ _ _ c.spaces.invariant.going s
    (does_out _ _ (spaces_loop.turn tt t) (spaces_laws.turn tt t) c.no_memory.result mid c.no_memory.new.self _ _ s.keeps.sound s.holds.owns c.no_memory.ensures.is c.no_memory.ensures.kept)

pub returns-then-not-space-clause-does : goal.returns-then-not-space-clause-does
returns-then-not-space-clause-does g c =
    let mid = c.token_or_end.new.engine in let s = rw c.in-Some.is at c.in_ok-token.ensures.does in let t = token_at mid.names c.in-Some.token in
    goes_over _ _ spaces_loop spaces_laws t t tt tt _ _ mid mid _ _ _ _ _ _ _ _ c.spaces.invariant.going s
    (does_now _ _ (λ s. space_turn tt t 0 s) (plain_space_turn tt t) (Over t) mid _ _ s.keeps.sound s.holds.owns s.stops.kept (λ shelf. space_is false t (state_of shelf mid) (sym c.in-Ok.ensures ∙ c.if-not-space.true)))

pub spaces-preserved : goal.spaces-preserved
spaces-preserved g c =
    let mid = c.token_or_end.new.engine in let s = rw c.in-Some.is at c.in_ok-token.ensures.does in let t = token_at mid.names c.in-Some.token in
    record {
      going = goes_on _ _ spaces_loop spaces_laws t tt tt tt _ _ mid mid _ _ _ _ _ _ _ _ c.spaces.invariant.going s
          (does_now _ _ (λ s. space_turn tt t 0 s) (plain_space_turn tt t) (On tt) mid _ _ s.keeps.sound s.holds.owns s.stops.kept (λ shelf. space_is true t (state_of shelf mid) (sym c.in-Ok.ensures ∙ c.if-not-space.false)));
    }

pub spaces-smaller : goal.spaces-smaller
spaces-smaller g c =
    let l = rw c.in-Some.is at c.in_ok-token.ensures.takes in let room = l.room c.in_ok-token.ensures.begun in
    omega arith
