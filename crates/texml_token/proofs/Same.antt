-- `==` tells two tokens, two pieces, and two lists of them apart.
use Rattle.std.proofs.Common.{rules, ◌≡◌, Decides, Bool, List, refl}
use Rattle.std.specs.Cmp.Lexicographic.{pointwise}
use Rattle.std.proofs.lemmas.Slice.Eq.{slice_eq-Decides}
use Rattle.texml_token.specs.declared.tokens.Token.{Token}
use Rattle.texml_token.specs.contracts.tokens.TokenPartialEq.TheImpl as eq

pub token-decides : (a b : Token) → Decides (eq.eq-value.it a b) (a ≡ b)
token-decides a b = search rules

pub tokens-decides : (a b : List Token) (r : Bool) → r ≡ pointwise eq.eq-value.it a b → Decides r (a ≡ b)
tokens-decides = slice_eq-Decides token-decides

pub lists-decides : (a b : List Token) → Decides (pointwise eq.eq-value.it a b) (a ≡ b)
lists-decides a b = tokens-decides a b _ refl
