-- Texts as the code writes them.
use Rattle.std.proofs.Common.{◌≡◌, ℕ, ℤ, pos, negsuc, int_lt, false, List, ◌++◌, Result, refl, subst, ap, ◌∙◌, unsigned_abs}
use Rattle.std.specs.Result.{IfOk}
use Rattle.texml_token.specs.declared.tokens.Token.{Token as TokenCode}
use Rattle.texml_token.specs.Numbers.{Table, tokens_at}
use Rattle.texml_expand.specs.Printed.{printed_tokens, roman, roman_text}

-- a text is written, and is the same as another one
pub written : {E : Type 0} (r : Result (List TokenCode) E) (text same : List ℕ) → text ≡ same → IfOk r (λ list. (texts : Table) → tokens_at texts list ≡ printed_tokens text)
    → IfOk r (λ list. (texts : Table) → tokens_at texts list ≡ printed_tokens same)
written r text same e h = subst (λ t. IfOk r (λ list. (texts : Table) → tokens_at texts list ≡ printed_tokens t)) e h

pub roman_of : (z : ℤ) → int_lt z (pos 0) ≡ false → roman (unsigned_abs z) ≡ roman_text z
roman_of (pos n) h = refl
roman_of (negsuc n) h = cc

-- parts behind each other
pub three_parts : (a b c x y z : List ℕ) → x ≡ a → y ≡ x ++ b → z ≡ y ++ c → z ≡ a ++ b ++ c
three_parts a b c x y z e f g = g ∙ ap (λ t. t ++ c) (f ∙ ap (λ t. t ++ b) e)
