use Rattle.std.proofs.Common.{sym, ap, ◌∙◌, Some}
use Rattle.texml_token.specs.Token.{has_category}
use Rattle.texml_token.specs.Numbers.{token_at}
use Rattle.texml_token.specs.declared.category.TheConstants.{PARAMETER}
use Rattle.texml_expand.proofs.Least.{choose_no}
use Rattle.texml_assign.specs.Parameters.{digit, place}
use Rattle.texml_assign.proofs.parameters.marked_token.Goals as goal

pub returns-clause-is : goal.returns-clause-is
returns-clause-is c = λ texts.
    let t = token_at texts c.args.token in
    c.place.ensures.is texts ∙ ap (place c.args.slots) (c.digit.ensures.is texts) ∙ sym (choose_no (has_category PARAMETER t) (Some t) (place c.args.slots (digit t)) (sym (c.has_category.ensures texts) ∙ c.if-has_category.false))

pub returns-clause-within : goal.returns-clause-within
returns-clause-within c = λ count w. c.place.ensures.within count
