use Rattle.std.proofs.Common.{◌≡◌, ◌∙◌, sym, subst, length}
use Rattle.std.specs.List.{All}
use Rattle.std.proofs.lemmas.List.Elements.{All-tail}
use Rattle.texml_token.specs.Numbers.{token_at, TokenWithin}
use Rattle.texml_match.specs.Arguments.{is_par}
use Rattle.texml_match.proofs.Feeding.{any_goes}
use Rattle.texml_match.proofs.argument.has_par.Goals as goal

pub loop-token-preserved : goal.loop-token-preserved
loop-token-preserved c = record {
  same = any_goes is_par (token_at c.args.names.now) _ _ _ c.in-Some.ensures.cases.0 (sym c.is_par.ensures ∙ c.if-is_par.false) ∙ c.loop-token.invariant.same;
  within = All-tail (TokenWithin (length c.args.names.now)) _ _ (subst (All (TokenWithin (length c.args.names.now))) c.in-Some.ensures.cases.0 c.loop-token.invariant.within);
}
