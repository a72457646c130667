use Rattle.std.proofs.Common.{◌<◌, ◌≤◌, length, sym, subst}
use Rattle.std.proofs.lemmas.List.Elements.{All-push}
use Rattle.texml_token.specs.Numbers.{TokenWithin, TokensWithin}
use Rattle.texml_expand.specs.Held.{world_in}
use Rattle.texml_assign.specs.Letters.{token_in}
use Rattle.texml_assign.proofs.LetterCases.{changed_more, changed_all}
use Rattle.texml_assign.proofs.letters.tokens_in.Goals as goal

pub loop-token-preserved : goal.loop-token-preserved
loop-token-preserved c =
    let l = c.loop-token in let h = c.args.engine.now in
    let lt : l.token-index < length c.args.list.now = rw c.as_slice-token-items.ensures at c.loop-token-test.true in
    record {
      are = changed_more h.names (token_in c.args.case (world_in h)) c.args.list.now l.changed c.push.new.self l.token-index _ c.in_ok-token_in.field-0 lt l.invariant.are c.in_ok-push.ensures.ok
          (rw c.as_slice-token-items.ensures at c.in_ok-token_in.ensures.is);
      within = subst (TokensWithin (length h.names)) (sym c.in_ok-push.ensures.ok)
          (All-push (TokenWithin (length h.names)) l.changed c.in_ok-token_in.field-0 l.invariant.within c.in_ok-token_in.ensures.within);
    }

pub returns-clause-are : goal.returns-clause-are
returns-clause-are c =
    let l = c.loop-token in let h = c.args.engine.now in
    let le : length c.args.list.now ≤ l.token-index = rw c.as_slice-token-items.ensures at c.loop-token-test.false in
    changed_all h.names (token_in c.args.case (world_in h)) c.args.list.now l.changed l.token-index le l.invariant.are
