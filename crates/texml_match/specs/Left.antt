-- What is left to be read where a part was read, which the contract of feeding cites.
use Rattle.std.specs.Prelude.{◌≡◌, ◌≤◌, ◌<◌, ℕ, Bool, false, ◌&&◌, ◌||◌, not, nat_lt, List, [], ◌∷◌, ◌++◌, length, map, drop, slice_index_or, IsTrue}
use Rattle.std.specs.List.{All, list_any}
use Rattle.texml_token.specs.Token.{Token}
use Rattle.texml_token.specs.Numbers.{Table, tokens_at, Numbered, TokensWithin}
use Rattle.texml_token.specs.declared.tokens.Token.{Token as TokenCode}
use Rattle.texml_match.specs.declared.arg_match.Fed.{Fed}
use Rattle.texml_match.specs.declared.arg_match.Fed.TheVariants.{More, All as AllArgs, Fault, NoMemory}
use Rattle.texml_match.specs.Reading.{Read, Gives, Fails, Reader, ◌>>=◌, ◌>>◌, give, least}
use Rattle.texml_match.specs.Shape.{Shape, ShapeWithin}
use Rattle.texml_match.specs.Arguments.{exactly, argument, arguments, verdict, lets_par, is_par}

-- what was read: how many tokens before the first argument, the arguments, and the tokens of the next one
pub record Matched : Type 0 where
  pub prefix : ℕ
  pub args : List (List TokenCode)
  pub list : List TokenCode

-- nothing was read
abbrev pub nothing_matched : Matched
nothing_matched = record { prefix = 0; args = []; list = [] }

-- the rest of an argument
abbrev pub argument_left : Bool → List Token → List Token → Reader (List Token)
argument_left long delimiter [] = argument long delimiter
argument_left long delimiter (t ∷ ts) = least (verdict long delimiter) (t ∷ ts)

-- the arguments that were read, and those of the delimiters left
abbrev pub arguments_with : Bool → List (List Token) → List (List Token) → Reader (List (List Token))
arguments_with long args delimiters = do
  others ← arguments long delimiters
  give (args ++ others)

abbrev pub arguments_left : Bool → List (List Token) → List (List Token) → List Token → Reader (List (List Token))
arguments_left long [] args list = give args
arguments_left long (d ∷ ds) args list = do
  next ← argument_left long d list
  arguments_with long (args ++ next ∷ []) ds

-- what is left of the reading of a shape
abbrev pub left : Table → Shape TokenCode → Matched → Reader (List (List Token))
left texts shape m = do
  exactly (tokens_at texts (drop m.prefix shape.prefix))
  arguments_left shape.long (map (tokens_at texts) (drop (length m.args) shape.delimiters)) (map (tokens_at texts) m.args) (tokens_at texts m.list)

-- the delimiter of the argument that is read next
abbrev pub next_delimiter : Shape TokenCode → Matched → List TokenCode
next_delimiter shape m = slice_index_or shape.delimiters (length m.args) []

-- there is no `\par` where it may not stand
abbrev pub runs_away : Bool → List Token → List Token → Bool
runs_away long delimiter list = list_any is_par list && not (lets_par long delimiter)

-- this much of a shape was read, whose names are given
pub record Stands (texts : Table) (shape : Shape TokenCode) (m : Matched) : Type 0 where
  pub numbered : Numbered texts
  pub within : ShapeWithin (length texts) shape
  pub args : All (TokensWithin (length texts)) m.args
  pub list : TokensWithin (length texts) m.list
  pub prefix : m.prefix ≤ length shape.prefix
  pub before : m.prefix < length shape.prefix → (m.args ≡ []) × (m.list ≡ [])
  pub few : length m.args ≤ length shape.delimiters
  pub par : runs_away shape.long (tokens_at texts (next_delimiter shape m)) (tokens_at texts m.list) ≡ false

-- more of the shape is to be read
abbrev pub is_more : Shape TokenCode → Matched → Bool
is_more shape m = nat_lt m.prefix (length shape.prefix) || nat_lt (length m.args) (length shape.delimiters)

-- this much of a shape was read, and it isn't all
pub record Reads (texts : Table) (shape : Shape TokenCode) (m : Matched) : Type 0 where
  pub stands : Stands texts shape m
  pub more : IsTrue (is_more shape m)

-- what an answer to a token says of what was left before it, and of what is left behind it
abbrev pub Says : Table → Fed → Reader (List (List Token)) → Reader (List (List Token)) → Token → Type 0
Says texts More before after t = (more : List Token) → before (t ∷ more) ≡ after more
Says texts (AllArgs args) before after t = (more : List Token) → before (t ∷ more) ≡ Gives (map (tokens_at texts) args) more
Says texts (Fault f) before after t = (more : List Token) → before (t ∷ more) ≡ Fails f
Says texts NoMemory before after t = Unit {0}

-- of more tokens
abbrev pub OnMore : Fed → Type 0 → Type 0
OnMore More P = P
OnMore (AllArgs args) P = Unit {0}
OnMore (Fault f) P = Unit {0}
OnMore NoMemory P = Unit {0}

-- so many names give each token of the arguments
abbrev pub ArgsWithin : ℕ → Fed → Type 0
ArgsWithin count More = Unit {0}
ArgsWithin count (AllArgs args) = All (TokensWithin count) args
ArgsWithin count (Fault f) = Unit {0}
ArgsWithin count NoMemory = Unit {0}
