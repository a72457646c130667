use Rattle.std.proofs.Common.{◌≡◌, ◌∙◌, sym, ap, subst}
use Rattle.texml_token.specs.Numbers.{TokensWithin}
use Rattle.texml_match.proofs.arg_match.ArgMatch.argument.Goals as goal

pub returns-in_ok-from_slice-in-Some-clause-within : goal.returns-in_ok-from_slice-in-Some-clause-within
returns-in_ok-from_slice-in-Some-clause-within c = λ count h.
    subst (TokensWithin count) (sym c.in_ok-from_slice-in-Some.ensures) (c.in-Some.ensures.within count (subst (TokensWithin count) (sym (c.as_slice.ensures.value ∙ ap (λ m. m.list) c.self.view_is)) h))
