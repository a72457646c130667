-- What \if and \ifcat see of a token, over texts.
use Rattle.std.proofs.Common.{◌≡◌, ℕ, zero, suc, Bool, true, false, not, refl}
use Rattle.texml_token.specs.Numbers.{Table, name_at, token_at}
use Rattle.texml_token.specs.declared.tokens.Token.{Token as TokenCode}
use Rattle.texml_token.specs.declared.tokens.Token.TheVariants as tokens
use Rattle.texml_scope.specs.Texts.{World}
use Rattle.texml_expand.specs.Take.{meaning_of, means}
use Rattle.texml_expand.specs.Quantities.{frozen_as}
use Rattle.texml_expand.specs.Conditionals.{face_of, frozen_face}

-- what a test says that is turned round
pub no_longer : (b : Bool) → not b ≡ true → b ≡ false
no_longer true e = cc
no_longer false e = refl

pub still : (b : Bool) → not b ≡ false → b ≡ true
still true e = refl
still false e = cc

module _ (texts : Table) (w : World) where
  frozen_name : (n : ℕ) → frozen_face w (name_at texts n) ≡ face_of (means w (frozen_as (name_at texts n) (meaning_of w (name_at texts n))))
  frozen_name zero = refl
  frozen_name (suc n) = refl

  -- a token that is no active character
  pub frozen_other : (t : TokenCode) → ((c : ℕ) → t ≡ tokens.Active c → ⊥) → frozen_face w (token_at texts t) ≡ face_of (means w (frozen_as (token_at texts t) (meaning_of w (token_at texts t))))
  frozen_other (tokens.Char c k) h = refl
  frozen_other (tokens.Active c) h = absurd (h c refl)
  frozen_other (tokens.Param n) h = refl
  frozen_other (tokens.Named name) h = frozen_name name.0
