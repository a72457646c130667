use Rattle.std.proofs.Common.{[], ◌∷◌, ◌++◌, ◌==◌, ◌+◌, sym, ap, ap₂, ◌∙◌}
use Rattle.texml_token.specs.Numbers.{tokens_at}
use Rattle.texml_token.specs.declared.category.TheConstants.{BEGIN_GROUP, END_GROUP}
use Rattle.texml_expand.specs.Braces.{closes}
use Rattle.texml_expand.proofs.Counting.{count_more}
use Rattle.texml_expand.proofs.gathering.Gathered.closes.Goals as goal

pub returns : goal.returns
returns c = λ texts.
    let i = c.self.invariant texts in
    let begins = count_more texts BEGIN_GROUP c.self.inside.list c.args.token _ _ i.0 (c.in_ok-begun.ensures texts) in
    let ends = count_more texts END_GROUP c.self.inside.list c.args.token _ _ i.1 (c.in_ok-ended.ensures texts) in
    c.is_next.ensures ∙ sym (ap₂ (λ n m. n == m + 1) ends begins) ∙ ap (λ list. closes (tokens_at texts (list ++ c.args.token ∷ []))) c.self.view_is
