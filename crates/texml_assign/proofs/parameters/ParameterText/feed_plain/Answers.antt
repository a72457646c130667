use Rattle.std.proofs.Common.{true, refl, sym, ap, subst, ◌∙◌}
use Rattle.texml_expand.specs.declared.feeding.Verdict.TheVariants.{TooShort}
use Rattle.texml_expand.specs.Feeding.{IsFed}
use Rattle.texml_assign.specs.TextFeeding.{TextSoFar, judge_text}
use Rattle.texml_assign.proofs.ParameterTexts.{fed_mark, fed_piece}
use Rattle.texml_assign.proofs.parameters.ParameterText.feed_plain.Goals as goal

pub returns-then-has_category : goal.returns-then-has_category
returns-then-has_category c = λ texts.
    let i = c.self.inside in
    let old : TextSoFar = record { pieces = i.pieces; slots = i.slots; marked = i.marked } in
    let new : TextSoFar = record { pieces = i.pieces; slots = i.slots; marked = true } in
    subst (λ s. IsFed (judge_text s) c.args.token TooShort (judge_text new) texts) c.self.view_is
    (fed_mark old new c.args.token texts (ap (λ (s : TextSoFar). s.marked) c.self.view_is ∙ c.requires) (sym (c.has_category.ensures texts) ∙ c.if-has_category.true) refl)

pub returns : goal.returns
returns c = λ texts.
    let i = c.self.inside in
    let old : TextSoFar = record { pieces = i.pieces; slots = i.slots; marked = i.marked } in
    let new : TextSoFar = record { pieces = c.push.new.self; slots = i.slots; marked = i.marked } in
    subst (λ s. IsFed (judge_text s) c.args.token TooShort (judge_text new) texts) c.self.view_is
    (fed_piece old new c.args.token texts (ap (λ (s : TextSoFar). s.marked) c.self.view_is ∙ c.requires) (sym (c.has_category.ensures texts) ∙ c.if-has_category.false)
    (sym (c.has_category-2.ensures texts) ∙ c.if-has_category-2.false) (sym (c.has_category-3.ensures texts) ∙ c.if-has_category-3.false)
    (ap (λ l. record { pieces = l; slots = i.slots; marked = i.marked }) c.in_ok-push.ensures.ok))
