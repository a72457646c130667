use Rattle.std.proofs.Common.{[], sym, ◌∙◌}
use Rattle.texml_token.specs.Token.{has_category}
use Rattle.texml_token.specs.Numbers.{token_at}
use Rattle.texml_token.specs.declared.category.TheConstants.{END_GROUP}
use Rattle.texml_expand.proofs.Groups.{one_open}
use Rattle.texml_expand.proofs.group.open_behind.Goals as goal

pub overflow_sub-result : goal.overflow_sub-result
overflow_sub-result c =
    one_open c.args.inner (has_category END_GROUP (token_at [] c.args.token)) (λ e. c.requires e []) (sym (c.has_category.ensures []) ∙ c.if-has_category.true)
