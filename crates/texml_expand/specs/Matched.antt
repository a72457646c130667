-- Only contracts of private functions need these: the arguments that a shape asks for, as the code reads them.
use Rattle.std.specs.Prelude.{◌≡◌, List, length, map}
use Rattle.texml_base.specs.Outside.{Shelf}
use Rattle.texml_token.specs.Token.{Token}
use Rattle.texml_token.specs.Numbers.{tokens_at}
use Rattle.texml_token.specs.declared.tokens.Token.{Token as TokenCode}
use Rattle.texml_match.specs.Shape.{Shape, shape_at}
use Rattle.texml_match.specs.Arguments.{reading}
use Rattle.texml_expand.specs.declared.feeding.Verdict.TheVariants.{Yields}
use Rattle.texml_expand.specs.Arguments.{decided_by}
use Rattle.texml_expand.specs.Held.{Held, Shrinks}

-- tokens were taken that are read as these arguments, and less is left to read by each of them
pub record MatchedBy (shape : Shape TokenCode) (args : List (List TokenCode)) (before : Shelf) (old : Held) (now : Shelf) (new : Held) : Type 0 where
  pub list : List Token
  pub is : decided_by (reading (shape_at old.names shape) list) ≡ Yields (map (tokens_at new.names) args)
  pub shrinks : Shrinks (length list) before old now new
