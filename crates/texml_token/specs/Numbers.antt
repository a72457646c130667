-- The code numbers names: what its tokens stand for by the table of texts.
use Rattle.std.specs.Prelude.{◌≡◌, ◌≢◌, ◌≤◌, ◌<◌, ◌+◌, ℕ, zero, suc, List, [], ◌∷◌, ◌++◌, map, Option, None, Some, length, slice_index_or, if◌then◌else◌}
use Rattle.std.specs.List.{All, list_any, position_or_len}
use Rattle.std.specs.Char.{IsScalar}
use Rattle.texml_token.specs.Token.{Token, Char, Active, Param, Named, Fixed, relax, text_eq}
use Rattle.texml_token.specs.declared.tokens.Token.{Token as TokenCode}
use Rattle.texml_token.specs.declared.tokens.Token.TheVariants as tokens
use Rattle.texml_token.specs.declared.category.TheConstants.{BEGIN_GROUP, END_GROUP, END_OF_LINE, IGNORED, OTHER}
use Rattle.texml_token.specs.declared.pieces.PieceOf.{PieceOf}
use Rattle.texml_token.specs.Pieces.{Params, Just, Slot, IsParameterText, map_piece, map_params, slots_in}

-- the table: the texts in the order of first use, numbered from 1. Number 0 is the fixed \relax
abbrev pub Table : Type 0
Table = List (List ℕ)

abbrev pub text_at : Table → ℕ → List ℕ
text_at texts zero = relax
text_at texts (suc k) = slice_index_or texts k []

-- the number of a text, which is past the table for a text that isn't there
abbrev pub number_of : Table → List ℕ → ℕ
number_of texts text = 1 + position_or_len (text_eq text) texts

-- the table with this text in it
abbrev pub with_text : Table → List ℕ → Table
with_text texts text = if list_any (text_eq text) texts then texts else texts ++ text ∷ []

-- each text stands once
pub record Numbered (texts : Table) : Type 0 where
  pub back : (n : ℕ) → 1 ≤ n → n ≤ length texts → number_of texts (text_at texts n) ≡ n

-- each text has characters alone
abbrev pub TextsAreScalar : Table → Type 0
TextsAreScalar = All (All IsScalar)

-- the table grew: each number that was given keeps its text
pub record Extends (old new : Table) : Type 0 where
  pub longer : length old ≤ length new
  pub texts : (n : ℕ) → n ≤ length old → text_at new n ≡ text_at old n
  pub numbers : (q : List ℕ) → number_of old q ≤ length old → number_of new q ≡ number_of old q
  pub others : (q : List ℕ) → length old < number_of old q → length old < number_of new q

-- what the code's tokens stand for
abbrev pub name_at : Table → ℕ → Token
name_at texts zero = Fixed
name_at texts (suc k) = Named (text_at texts (suc k))

abbrev pub token_at : Table → TokenCode → Token
token_at texts (tokens.Char c category) = Char c category
token_at texts (tokens.Active c) = Active c
token_at texts (tokens.Param n) = Param n
token_at texts (tokens.Named name) = name_at texts name.0

abbrev pub tokens_at : Table → List TokenCode → List Token
tokens_at texts = map (token_at texts)

abbrev pub piece_at : Table → PieceOf TokenCode → PieceOf Token
piece_at texts = map_piece (token_at texts)

abbrev pub pieces_at : Table → List (PieceOf TokenCode) → List (PieceOf Token)
pieces_at texts = map (piece_at texts)

abbrev pub params_at : Table → Params TokenCode → Params Token
params_at texts = map_params (token_at texts)

-- the categories that a character token may have: those of 1 to 12 that a token keeps
abbrev pub IsCharCategory : ℕ → Type 0
IsCharCategory category = (BEGIN_GROUP ≤ category) × (category ≤ OTHER) × (category ≢ END_OF_LINE) × (category ≢ IGNORED)

-- so many names give the name of a token, if it is one, and a character is one, with a category that fits. The place
-- of a parameter stands in bodies of macros alone
abbrev pub TokenWithin : ℕ → TokenCode → Type 0
TokenWithin count (tokens.Char c category) = IsScalar c × IsCharCategory category
TokenWithin count (tokens.Active c) = IsScalar c
TokenWithin count (tokens.Param n) = ⊥
TokenWithin count (tokens.Named name) = name.0 ≤ count

abbrev pub TokensWithin : ℕ → List TokenCode → Type 0
TokensWithin count = All (TokenWithin count)

-- a token of the body of a macro with so many parameters, which may also be the place of one of them
abbrev pub BodyTokenWithin : ℕ → ℕ → TokenCode → Type 0
BodyTokenWithin count slots (tokens.Char c category) = IsScalar c × IsCharCategory category
BodyTokenWithin count slots (tokens.Active c) = IsScalar c
BodyTokenWithin count slots (tokens.Named name) = name.0 ≤ count
BodyTokenWithin count slots (tokens.Param n) = (1 ≤ n) × (n ≤ slots)

abbrev pub BodyWithin : ℕ → ℕ → List TokenCode → Type 0
BodyWithin count slots = All (BodyTokenWithin count slots)

-- a token that ends no group
abbrev pub EndsNoGroup : TokenCode → Type 0
EndsNoGroup (tokens.Char c category) = category ≢ END_GROUP
EndsNoGroup t = Unit {0}

-- a piece of a parameter text, where no group ends
abbrev pub PieceWithin : ℕ → PieceOf TokenCode → Type 0
PieceWithin count (Just t) = TokenWithin count t × EndsNoGroup t
PieceWithin count (Slot n) = Unit {0}

-- what there may be is so
abbrev pub OptionWithin : {A : Type 0} → (A → Type 0) → Option A → Type 0
OptionWithin P None = Unit {0}
OptionWithin P (Some x) = P x

pub record ParamsWithin (count : ℕ) (p : Params TokenCode) : Type 0 where
  pub default : OptionWithin (TokensWithin count) p.default
  pub pieces : All (PieceWithin count) p.pieces
  pub shape : IsParameterText p

-- the body of a macro with these parameters
abbrev pub MacroBodyWithin : ℕ → Params TokenCode → List TokenCode → Type 0
MacroBodyWithin count p body = BodyWithin count (slots_in p.pieces) body
