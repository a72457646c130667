use Rattle.std.proofs.Common.{rules, arith, ◌≡◌, ◌∙◌, sym, length}
use Rattle.texml_match.proofs.Grouping.{open_goes, open_stops, open_ends}
use Rattle.texml_match.proofs.groups.open_in.Goals as goal

pub returns-in_err-depth : goal.returns-in_err-depth
returns-in_err-depth c = λ texts. let h = open_stops texts _ _ _ _ c.in-Some.ensures.cases.0 _ (c.behind_token.ensures.depth texts) c.in_err-depth.was ∙ c.loop-token.invariant.same texts in search (rules, h)

pub loop-token-preserved : goal.loop-token-preserved
loop-token-preserved c = record {
  same = λ texts. open_goes texts _ _ _ _ c.in-Some.ensures.cases.0 _ (c.behind_token.ensures.depth texts) _ c.in_ok-depth.was ∙ c.loop-token.invariant.same texts;
  few = omega (arith, c.in_ok-depth.ensures.few, c.in-Some.ensures.cases.1);
}

pub returns : goal.returns
returns c = λ texts. let none : length c.loop-token.rest.now ≡ 0 = search rules in open_ends texts c.loop-token.rest.now c.loop-token.depth none ∙ c.loop-token.invariant.same texts
