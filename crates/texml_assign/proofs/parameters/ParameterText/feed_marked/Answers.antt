use Rattle.std.proofs.Common.{◌+◌, [], false, sym, ap, subst, ◌∙◌, arith}
use Rattle.texml_token.specs.Numbers.{token_at}
use Rattle.texml_expand.specs.declared.feeding.Verdict.TheVariants.{TooShort}
use Rattle.texml_expand.specs.Feeding.{IsFed}
use Rattle.texml_assign.specs.TextFeeding.{TextSoFar, judge_text}
use Rattle.texml_assign.proofs.ParameterTexts.{number_few, fed_number}
use Rattle.texml_assign.proofs.parameters.ParameterText.feed_marked.Goals as goal

pub invariant_of-self-2 : goal.invariant_of-self-2
invariant_of-self-2 c = number_few (c.self-2.inside.slots + 1) (token_at [] c.args.token) (sym (c.has_number.ensures []) ∙ c.if-not-has_number.false)

pub returns : goal.returns
returns c = λ texts.
    let i = c.self-2.inside in
    let old : TextSoFar = record { pieces = i.pieces; slots = i.slots; marked = i.marked } in
    let new : TextSoFar = record { pieces = c.push-2.new.self; slots = i.slots + 1; marked = false } in
    subst (λ s. IsFed (judge_text s) c.args.token TooShort (judge_text new) texts) c.self-2.view_is
    (fed_number old new c.args.token texts (i.slots + 1) (omega arith) (ap (λ (s : TextSoFar). s.marked) c.self-2.view_is ∙ c.requires) (sym (c.has_category.ensures texts) ∙ c.if-has_category.false)
    (sym (c.has_number.ensures texts) ∙ c.if-not-has_number.false) (ap (λ l. record { pieces = l; slots = i.slots + 1; marked = false }) c.in_ok-push-2.ensures.ok))
