-- Tokens of a category are counted.
use Rattle.std.proofs.Common.{◌≡◌, ◌+◌, ℕ, Bool, cond, List, [], ◌∷◌, ◌++◌, sym, ap, ◌∙◌, arith}
use Rattle.std.specs.List.{count_by}
use Rattle.std.proofs.lemmas.List.{map-append}
use Rattle.std.proofs.lemmas.List.Sums.{sum_by-append, sum_by-cons}
use Rattle.texml_token.specs.Token.{Token, has_category}
use Rattle.texml_token.specs.Numbers.{Table, token_at, tokens_at}
use Rattle.texml_token.specs.declared.tokens.Token.{Token as TokenCode}

-- how many of a list with one more at its end
pub count_push : (p : Token → Bool) (list : List Token) (t : Token) → count_by p (list ++ t ∷ []) ≡ count_by p list + cond (p t) 1 0
count_push p list t = omega (arith, sum_by-append (λ x. cond (p x) 1 0) list (t ∷ []), sum_by-cons (λ x. cond (p x) 1 0) t [])

pub count_more : (texts : Table) (category : ℕ) (list : List TokenCode) (t : TokenCode) (n m : ℕ) → count_by (has_category category) (tokens_at texts list) ≡ n → m ≡ n + cond (has_category category (token_at texts t)) 1 0
    → count_by (has_category category) (tokens_at texts (list ++ t ∷ [])) ≡ m
count_more texts category list t n m is e =
    ap (count_by (has_category category)) (map-append (token_at texts) list (t ∷ [])) ∙ count_push (has_category category) (tokens_at texts list) (token_at texts t)
    ∙ ap (λ k. k + cond (has_category category (token_at texts t)) 1 0) is ∙ sym e
