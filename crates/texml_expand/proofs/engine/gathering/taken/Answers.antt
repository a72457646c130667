use Rattle.std.proofs.Common.{sym, subst, rules}
use Rattle.texml_token.specs.Numbers.{TokensWithin}
use Rattle.texml_expand.proofs.Gatherer.{parts_taken}
use Rattle.texml_expand.proofs.engine.gathering.taken.Goals as goal

pub returns-clause-kept : goal.returns-clause-kept
returns-clause-kept c = λ texts.
    let h = c.in_ok-kept.ensures.is texts in
    search (rules, h)

pub returns-clause-within : goal.returns-clause-within
returns-clause-within c = λ count within.
    let h = parts_taken count _ c.new.ensures within (c.in_ok-kept.ensures.within count (subst (TokensWithin count) (sym c.as_slice.ensures) within)) in
    search (rules, h, within)
