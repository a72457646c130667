-- What a parameter text asks for (The TeXbook, chapter 20), by what a token T is.
use Rattle.std.specs.Prelude.{◌≤◌, ◌==◌, ◌&&◌, ℕ, Bool, List, [], ◌∷◌, map, drop, length, Option, None, Some}
use Rattle.std.specs.List.{All}
use Rattle.texml_token.specs.declared.pieces.PieceOf.{PieceOf}
use Rattle.texml_token.specs.declared.pieces.TheConstants.{MOST_PARAMETERS}
use Rattle.texml_token.specs.declared.tokens.Token.{Token as TokenCode}
use Rattle.texml_token.specs.Token.{Token}
use Rattle.texml_token.specs.declared.pieces.PieceOf.TheVariants.{Just, Slot}
use Rattle.texml_token.specs.Pieces.{Params}
use Rattle.texml_token.specs.Numbers.{Table, tokens_at, TokensWithin}

-- the tokens before the first argument, those behind each argument up to the next one, and whether `\par` may stand in them
pub record Shape (T : Type 0) : Type 0 where
  pub prefix : List T
  pub delimiters : List (List T)
  pub long : Bool

-- the tokens before the next parameter
abbrev pub leading : {T : Type 0} → List (PieceOf T) → List T
leading [] = []
leading (Just t ∷ ps) = t ∷ leading ps
leading (Slot n ∷ ps) = []

-- for each parameter the tokens behind it, up to the next one
abbrev pub delimiters : {T : Type 0} → List (PieceOf T) → List (List T)
delimiters [] = []
delimiters (Just t ∷ ps) = delimiters ps
delimiters (Slot n ∷ ps) = leading ps ∷ delimiters ps

-- the pieces that are left where a first parameter with a default was read before
abbrev pub pieces_left : {T : Type 0} → Option (List T) → List (PieceOf T) → List (PieceOf T)
pieces_left None ps = ps
pieces_left (Some list) ps = drop 1 ps

abbrev pub shape_from : {T : Type 0} → Bool → List (PieceOf T) → Shape T
shape_from long ps = record { prefix = leading ps; delimiters = delimiters ps; long = long }

-- what is left to be read of a macro's parameter text
abbrev pub shape_of : {T : Type 0} → Bool → Params T → Shape T
shape_of long p = shape_from long (pieces_left p.default p.pieces)

-- there is nothing to be read
abbrev pub is_empty : {T : Type 0} → Shape T → Bool
is_empty shape = length shape.prefix == 0 && length shape.delimiters == 0

-- a shape of the code, by the table of texts
abbrev pub shape_at : Table → Shape TokenCode → Shape Token
shape_at texts shape = record { prefix = tokens_at texts shape.prefix; delimiters = map (tokens_at texts) shape.delimiters; long = shape.long }

-- so many names give each token, and there are at most nine arguments
pub record ShapeWithin (count : ℕ) (shape : Shape TokenCode) : Type 0 where
  pub prefix : TokensWithin count shape.prefix
  pub delimiters : All (TokensWithin count) shape.delimiters
  pub few : length shape.delimiters ≤ MOST_PARAMETERS
