use Rattle.std.proofs.Common.{[], Some, refl, ap, ◌++◌, ◌∙◌, arith}
use Rattle.std.specs.Char.{encode_utf8}
use Rattle.texml_token.specs.Numbers.{token_at}
use Rattle.texml_token.specs.declared.fault_code.TheConstants.{FILE_ENDED}
use Rattle.texml_expand.specs.Held.{state_of, held_room}
use Rattle.texml_expand.specs.Hearing.{hears, hears_part}
use Rattle.texml_assign.specs.Loop.{On, Over}
use Rattle.texml_assign.proofs.Doing.{does_fault, goes_stops, goes_ends, goes_turn_stops, goes_over, goes_out, goes_on}
use Rattle.texml_top.specs.Verb.{text_loop}
use Rattle.texml_expand.proofs.Stopping.{passed_on}
use Rattle.texml_top.proofs.Verbs.{text_laws, char_over, char_on, turn_does, turn_ends}
use Rattle.texml_top.proofs.verb.text_to.Goals as goal

pub returns-in_err-token : goal.returns-in_err-token
returns-in_err-token g c = record {
  does =
      let d = c.args.end in
      let h = goes_stops _ _ (text_loop d) (text_laws d) _ [] c.tokens.text _ _ _ _ _ _ _ _ _ c.tokens.invariant.going c.in_err-token.ensures.does in rw (passed_on c.from_residual.result c.in_err-token.field-0.0 c.from_residual.ensures) h;
}

pub returns-in-None : goal.returns-in-None
returns-in-None g c = record {
  does =
      let d = c.args.end in let mid = c.token_or_end.new.engine in let seen = c.tokens.text in
      goes_ends _ _ (text_loop d) (text_laws d) _ [] seen _ _ mid c.bare_fault.new.self _ _ _ _ _ _ _ _ c.tokens.invariant.going (rw c.in-None.is at c.in_ok-token.ensures.does)
      (does_fault _ _ ((text_loop d).end seen) ((text_laws d).end seen) FILE_ENDED c.bare_fault.result mid c.bare_fault.new.self _ _ c.in_ok-token.ensures.does.holds.owns (λ shelf. refl) c.bare_fault.ensures.is c.bare_fault.ensures.kept);
}

pub returns-in_err-code : goal.returns-in_err-code
returns-in_err-code g c = record {
  does =
      let d = c.args.end in let i = c.tokens.invariant in let mid = c.token_or_end.new.engine in let s = rw c.in-Some.is at c.in_ok-token.ensures.does in let t = token_at mid.names c.in-Some.token in let seen = c.tokens.text in let far = c.char_of.new.engine in
      let m = c.in_err-code.ensures in
      let h = goes_turn_stops _ _ (text_loop d) (text_laws d) t _ [] seen _ _ mid far _ _ _ _ _ _ _ _ i.going s
      (turn_ends (hears g.T.Teller.wanting g.T.Teller.heard) (hears_part g.T.Teller.wanting g.T.Teller.part) d seen t _ mid far _ _ s.keeps.sound s.holds.owns m.gives m.kept m.is) in
      rw (passed_on c.from_residual-in_err-code.result c.in_err-code.field-0.0 c.from_residual-in_err-code.ensures) h;
}

pub returns-then-code-end : goal.returns-then-code-end
returns-then-code-end g c = record {
  does =
      let d = c.args.end in let i = c.tokens.invariant in let mid = c.token_or_end.new.engine in let s = rw c.in-Some.is at c.in_ok-token.ensures.does in let t = token_at mid.names c.in-Some.token in let seen = c.tokens.text in let far = c.char_of.new.engine in
      let m = c.in_ok-code.ensures in
      goes_over _ _ (text_loop d) (text_laws d) t seen [] seen _ _ mid far _ _ _ _ _ _ _ _ i.going s
      (turn_does (hears g.T.Teller.wanting g.T.Teller.heard) (hears_part g.T.Teller.wanting g.T.Teller.part) d seen t c.in_ok-code.code (Over seen) mid far _ _ s.holds.owns m.gives m.kept m.keeps m.is (λ shelf. char_over d seen c.in_ok-code.code (state_of shelf far) c.if-code-end.true));
}

pub tokens-smaller : goal.tokens-smaller
tokens-smaller g c =
    let l = rw c.in-Some.is at c.in_ok-token.ensures.takes in let room = l.room c.in_ok-token.ensures.begun in
    let same = ap (held_room (g.F.Files.shelf c.token_or_end.new.files)) c.in_ok-code.ensures.is in
    omega (arith, same)

pub tokens-preserved : goal.tokens-preserved
tokens-preserved g c =
    let d = c.args.end in let i = c.tokens.invariant in let mid = c.token_or_end.new.engine in let s = rw c.in-Some.is at c.in_ok-token.ensures.does in let t = token_at mid.names c.in-Some.token in let seen = c.tokens.text in let far = c.char_of.new.engine in
    let m = c.in_ok-code.ensures in
    let more = c.push_char.new.text in
    record {
      going = goes_on _ _ (text_loop d) (text_laws d) t [] seen more _ _ mid far _ _ _ _ _ _ _ _ i.going s
          (turn_does (hears g.T.Teller.wanting g.T.Teller.heard) (hears_part g.T.Teller.wanting g.T.Teller.part) d seen t c.in_ok-code.code (On more) mid far _ _ s.holds.owns m.gives m.kept m.keeps m.is (λ shelf. char_on d seen more c.in_ok-code.code (state_of shelf far) c.if-code-end.false c.in-Ok.ensures));
    }

pub returns-in-Err : goal.returns-in-Err
returns-in-Err g c = record {
  does =
      let d = c.args.end in let i = c.tokens.invariant in let mid = c.token_or_end.new.engine in let s = rw c.in-Some.is at c.in_ok-token.ensures.does in let t = token_at mid.names c.in-Some.token in let seen = c.tokens.text in let far = c.char_of.new.engine in
      let m = c.in_ok-code.ensures in
      let more = seen ++ encode_utf8 c.in_ok-code.code in
      goes_out _ _ (text_loop d) (text_laws d) t (On more) c.no_memory.result [] seen _ _ mid far c.no_memory.new.self _ _ _ _ _ _ _ _ i.going s
      (turn_does (hears g.T.Teller.wanting g.T.Teller.heard) (hears_part g.T.Teller.wanting g.T.Teller.part) d seen t c.in_ok-code.code (On more) mid far _ _ s.holds.owns m.gives m.kept m.keeps m.is (λ shelf. char_on d seen more c.in_ok-code.code (state_of shelf far) c.if-code-end.false refl))
      c.no_memory.ensures.is c.no_memory.ensures.kept;
}
