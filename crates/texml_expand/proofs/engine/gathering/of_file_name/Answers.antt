use Rattle.std.proofs.Common.{◌≡◌, ℕ, zero, suc, ◌==◌, if◌then◌else◌, List, refl, sym, ap, ◌∙◌}
use Rattle.std.proofs.lemmas.Bool.{eq-eqb}
use Rattle.texml_token.specs.Token.{Token}
use Rattle.texml_token.specs.Numbers.{Table, name_at, token_at, tokens_at}
use Rattle.texml_token.specs.declared.category.TheConstants.{SPACE}
use Rattle.texml_token.specs.declared.tokens.Token.{Token as TokenCode}
use Rattle.texml_token.specs.declared.tokens.Token.TheVariants as tokens
use Rattle.texml_expand.specs.declared.feeding.Verdict.TheVariants.{TooShort, Yields}
use Rattle.texml_expand.specs.Gathering.{file_part, named_file, of_file_name}
use Rattle.texml_expand.proofs.engine.gathering.of_file_name.Goals as goal

-- a space ends a name that has begun
space_ends : (seen : List Token) (c category : ℕ) → category ≡ SPACE → (if category == SPACE then named_file (file_part seen) TooShort else TooShort) ≡ named_file (file_part seen) TooShort
space_ends seen c category e = ap (λ b. if b then named_file (file_part seen) TooShort else TooShort) (eq-eqb category SPACE e)

-- and so does what isn't a character
name_ends : (texts : Table) (seen : List Token) (n : ℕ) → of_file_name seen (name_at texts n) ≡ Yields (file_part seen)
name_ends texts seen zero = refl
name_ends texts seen (suc n) = refl

other_ends : (texts : Table) (seen : List Token) (t : TokenCode) → ((c k : ℕ) → t ≡ tokens.Char c k → ⊥) → of_file_name seen (token_at texts t) ≡ Yields (file_part seen)
other_ends texts seen (tokens.Char c k) other = absurd (other c k refl)
other_ends texts seen (tokens.Active c) other = refl
other_ends texts seen (tokens.Param n) other = refl
other_ends texts seen (tokens.Named n) other = name_ends texts seen n.0

pub returns-in_ok-file_part-in-Char-default-eq10-clause-is : goal.returns-in_ok-file_part-in-Char-default-eq10-clause-is
returns-in_ok-file_part-in-Char-default-eq10-clause-is c = λ texts.
    let seen = tokens_at texts c.args.gathered.now in
    c.begun_name.ensures.is texts ∙ ap (λ l. named_file l TooShort) (c.in_ok-file_part-in-Char-default-eq10.ensures.is texts)
    ∙ sym (ap (λ t. of_file_name seen (token_at texts t)) c.in-Char-default-eq10.is ∙ space_ends seen c.in-Char-default-eq10.field-0 c.in-Char-default-eq10.field-1 (sym c.in-Char-default-eq10.field-1-is ∙ c.in-Char-default-eq10.field-1-test))

pub returns-in_ok-file_part-in-Char-default-eq10-clause-within : goal.returns-in_ok-file_part-in-Char-default-eq10-clause-within
returns-in_ok-file_part-in-Char-default-eq10-clause-within c = λ count w. c.begun_name.ensures.within count (c.in_ok-file_part-in-Char-default-eq10.ensures.within count w)

pub returns-in_ok-file_part-in_default : goal.returns-in_ok-file_part-in_default
returns-in_ok-file_part-in_default c = record {
  is = λ texts. ap Yields (c.in_ok-file_part-in_default.ensures.is texts) ∙ sym (other_ends texts (tokens_at texts c.args.gathered.now) c.args.token c.in_default.not-Char);
  within = λ count w. c.in_ok-file_part-in_default.ensures.within count w;
}
