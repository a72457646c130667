use Rattle.std.proofs.Common.{◌≡◌, sym, subst}
use Rattle.std.specs.List.{count_by}
use Rattle.texml_token.specs.Token.{has_category}
use Rattle.texml_token.specs.Numbers.{tokens_at}
use Rattle.texml_token.specs.declared.category.TheConstants.{BEGIN_GROUP, END_GROUP}
use Rattle.texml_expand.proofs.Counting.{count_more}
use Rattle.texml_expand.proofs.gathering.Gathered.push.Goals as goal

pub invariant_of-self : goal.invariant_of-self
invariant_of-self c = λ texts. subst (λ l. (count_by (has_category BEGIN_GROUP) (tokens_at texts l) ≡ c.self.inside.begun) × (count_by (has_category END_GROUP) (tokens_at texts l) ≡ c.self.inside.ended)) (sym c.in_err-push.ensures.err) (c.self.invariant texts)

pub invariant_of-self-2 : goal.invariant_of-self-2
invariant_of-self-2 c = λ texts.
    let i = c.self.invariant texts in
    subst (λ l. (count_by (has_category BEGIN_GROUP) (tokens_at texts l) ≡ c.in_ok-begun.begun) × (count_by (has_category END_GROUP) (tokens_at texts l) ≡ c.in_ok-ended.ended)) (sym c.in_ok-push.ensures.ok)
    (count_more texts BEGIN_GROUP c.self.inside.list c.args.token _ _ i.0 (c.in_ok-begun.ensures texts), count_more texts END_GROUP c.self.inside.list c.args.token _ _ i.1 (c.in_ok-ended.ensures texts))
