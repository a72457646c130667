use Rattle.std.proofs.Common.{◌≡◌, ◌∙◌, sym, subst, List}
use Rattle.texml_cond.specs.Skipping.{MeaningCode, Fed}
use Rattle.texml_cond.proofs.Counting.{begins-deep, begins-more, begins-fed, stops-reached, stops-more, fi-fed, other-fed, passes-more, passes-fed}
use Rattle.texml_cond.proofs.skipping.Skip.feed.Goals as goal

pub returns-then-self-clause-decides : goal.returns-then-self-clause-decides
returns-then-self-clause-decides c = λ seen h. begins-deep seen _ (subst (Fed seen) (sym c.self.view_is) h) c.args.meaning.now (sym c.in-Begins.is ∙ c.part_of.ensures) c.if-self.true

pub returns-then-self-eq0-clause-decides : goal.returns-then-self-eq0-clause-decides
returns-then-self-eq0-clause-decides c =
    λ seen h. stops-reached seen _ (subst (Fed seen) (sym c.self.view_is) h) c.args.meaning.now c.in-Stops.word (sym c.in-Stops.is ∙ c.part_of.ensures) c.if-self-eq0.true

pub returns-then-ends-clause-decides : goal.returns-then-ends-clause-decides
returns-then-ends-clause-decides c =
    λ seen h. stops-more seen _ (subst (Fed seen) (sym c.self.view_is) h) c.args.meaning.now c.in-Stops.word (sym c.in-Stops.is ∙ c.part_of.ensures) c.if-self-eq0.false

pub returns-then-ends-clause-goes_on : goal.returns-then-ends-clause-goes_on
returns-then-ends-clause-goes_on c =
    λ seen h more. fi-fed seen _ (subst (Fed seen) (sym c.self.view_is) h) c.args.meaning.now c.in-Stops.word (sym c.in-Stops.is ∙ c.part_of.ensures) c.if-self-eq0.false (sym c.ends.ensures ∙ c.if-ends.true)

pub returns-else-self-clause-decides : goal.returns-else-self-clause-decides
returns-else-self-clause-decides c = λ seen h. begins-more seen _ (subst (Fed seen) (sym c.self.view_is) h) c.args.meaning.now (sym c.in-Begins.is ∙ c.part_of.ensures) c.if-self.false

pub returns-else-self-clause-goes_on : goal.returns-else-self-clause-goes_on
returns-else-self-clause-goes_on c = λ seen h more. begins-fed seen _ (subst (Fed seen) (sym c.self.view_is) h) c.args.meaning.now (sym c.in-Begins.is ∙ c.part_of.ensures) c.if-self.false

pub returns-else-ends-clause-decides : goal.returns-else-ends-clause-decides
returns-else-ends-clause-decides c =
    λ seen h. stops-more seen _ (subst (Fed seen) (sym c.self.view_is) h) c.args.meaning.now c.in-Stops.word (sym c.in-Stops.is ∙ c.part_of.ensures) c.if-self-eq0.false

pub returns-else-ends-clause-goes_on : goal.returns-else-ends-clause-goes_on
returns-else-ends-clause-goes_on c =
    λ seen h more. other-fed seen _ h c.args.meaning.now c.in-Stops.word (sym c.in-Stops.is ∙ c.part_of.ensures) (λ e. c.if-self-eq0.false (c.self.view_is ∙ e)) (sym c.ends.ensures ∙ c.if-ends.false)

pub returns-in-Passes-clause-decides : goal.returns-in-Passes-clause-decides
returns-in-Passes-clause-decides c = λ seen h. passes-more seen _ (subst (Fed seen) (sym c.self.view_is) h) c.args.meaning.now (sym c.in-Passes.is ∙ c.part_of.ensures)

pub returns-in-Passes-clause-goes_on : goal.returns-in-Passes-clause-goes_on
returns-in-Passes-clause-goes_on c = λ seen h more. passes-fed seen _ h c.args.meaning.now (sym c.in-Passes.is ∙ c.part_of.ensures)
