use Rattle.std.proofs.Common.{[], ◌∷◌, ◌++◌, sym, ap, subst, append_assoc, ◌∙◌}
use Rattle.texml_token.specs.Numbers.{tokens_at}
use Rattle.texml_expand.specs.declared.feeding.Verdict.TheVariants.{Yields}
use Rattle.texml_expand.specs.Feeding.{IsOpen, judge_group}
use Rattle.texml_expand.proofs.Groups.{group_ends, group_open, group_short}
use Rattle.texml_expand.proofs.group.GroupFeederTokens.feed.Goals as goal

pub returns-then-has_category : goal.returns-then-has_category
returns-then-has_category c = λ texts x. record {
  is =
      ap (λ g. judge_group texts (g ++ c.args.token ∷ [])) (sym c.self.view_is)
      ∙ group_ends texts c.self.inside.body c.args.token (subst (IsOpen (tokens_at texts c.self.inside.body)) c.if-self-eq0.true (c.self.invariant texts)) (sym (c.has_category.ensures texts) ∙ c.if-has_category.true)
      ∙ ap Yields (sym c.replace-body.ensures.value);
  on = λ e. cc;
}

pub invariant_of-self-in_err-push : goal.invariant_of-self-in_err-push
invariant_of-self-in_err-push c = λ texts. subst (λ b. IsOpen (tokens_at texts b) c.self.inside.inner) (sym c.in_err-push.ensures.err) (c.self.invariant texts)

pub invariant_of-self-2 : goal.invariant_of-self-2
invariant_of-self-2 c = λ texts.
    subst (λ b. IsOpen (tokens_at texts b) c.in_ok-inner.inner) (sym c.in_ok-push.ensures.ok)
    (group_open texts c.self.inside.body c.args.token c.self.inside.inner c.in_ok-inner.inner (c.self.invariant texts) (c.in_ok-inner.ensures texts))

pub returns : goal.returns
returns c = λ texts x. record {
  is =
      ap (λ g. judge_group texts (g ++ c.args.token ∷ [])) (sym c.self.view_is) ∙ ap (judge_group texts) (sym c.in_ok-push.ensures.ok)
      ∙ group_short texts c.push.new.self c.in_ok-inner.inner (invariant_of-self-2 c texts);
  on = λ e more.
      ap (λ b. judge_group texts (b ++ more)) c.in_ok-push.ensures.ok ∙ ap (judge_group texts) (append_assoc c.self.inside.body (c.args.token ∷ []) more)
      ∙ ap (λ g. judge_group texts (g ++ c.args.token ∷ more)) c.self.view_is;
}
