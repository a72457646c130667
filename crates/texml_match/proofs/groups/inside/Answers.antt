use Rattle.std.proofs.Common.{ap, ◌∙◌, sym, Some, None, if◌then◌else◌, Bool}
use Rattle.texml_match.proofs.Grouping.{inside_found, inner_within}
use Rattle.texml_match.proofs.groups.inside.Goals as goal

pub returns-then-is_group-clause-is : goal.returns-then-is_group-clause-is
returns-then-is_group-clause-is c = λ texts. inside_found texts _ _ _ _ _ c.in_ok-first.ensures.cases.0 c.in_ok-last.ensures.cases.0 _ (sym c.if-is_group.true ∙ c.is_group.ensures texts)

pub returns-then-is_group-clause-within : goal.returns-then-is_group-clause-within
returns-then-is_group-clause-within c = λ count h. inner_within count _ _ _ _ _ c.in_ok-first.ensures.cases.0 c.in_ok-last.ensures.cases.0 h

pub returns-clause-is : goal.returns-clause-is
returns-clause-is c = λ texts. inside_found texts _ _ _ _ _ c.in_ok-first.ensures.cases.0 c.in_ok-last.ensures.cases.0 _ (sym c.if-is_group.false ∙ c.is_group.ensures texts)
