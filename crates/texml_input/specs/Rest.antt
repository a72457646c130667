-- The flat rest: what is still to be read (The TeXbook, chapters 7 and 8).
use Rattle.std.specs.Prelude.{ℕ, ◌+◌, Bool, true, false, if◌then◌else◌, List, [], ◌∷◌, map, sum_by, length, Option, Some, None}
use Rattle.texml_token.specs.Token.{Token}
use Rattle.texml_token.specs.Numbers.{Table, token_at}
use Rattle.texml_token.specs.declared.tokens.Token.{Token as TokenCode}
use Rattle.texml_text.specs.File.{Row}
use Rattle.texml_mouth.specs.Mouth.{Spot}
use Rattle.texml_mouth.specs.declared.LineState.TheVariants.{NewLine}

-- a text: its name, how many of its lines were loaded, where in the last of these it is read from, and the lines that weren't
pub record Page : Type 0 where
  pub name : List ℕ
  pub number : ℕ
  pub spot : Spot
  pub rows : List Row

-- a token, a token that is kept from being expanded, or a text
pub data Item (T : Type 0) : Type 0 where
  Tok : T → Item T
  Frozen : T → Item T
  Text : Page → Item T

-- the name of a text, and the number of its line
pub record Place : Type 0 where
  pub file : List ℕ
  pub line : ℕ

-- before the first line
abbrev pub no_place : Place
no_place = record { file = []; line = 0 }

-- what the code's items stand for
abbrev pub item_at : Table → Item TokenCode → Item Token
item_at texts (Tok t) = Tok (token_at texts t)
item_at texts (Frozen t) = Frozen (token_at texts t)
item_at texts (Text p) = Text p

abbrev pub items_at : Table → List (Item TokenCode) → List (Item Token)
items_at texts = map (item_at texts)

-- a token put back, which is perhaps kept from being expanded
abbrev pub back_as : {T : Type 0} → T → Bool → Item T
back_as t true = Frozen t
back_as t false = Tok t

-- a spot at the start of a line
abbrev pub start : List ℕ → Spot
start line = record { state = NewLine; tail = line }

abbrev pub page : List ℕ → ℕ → Spot → List Row → Page
page name number spot rows = record { name = name; number = number; spot = spot; rows = rows }

-- a text with these lines, of which nothing was read yet
abbrev pub fresh : List ℕ → List Row → Page
fresh name rows = page name 0 (start []) rows

-- a text of which no further line is loaded
abbrev pub ended : Page → Page
ended p = page p.name p.number p.spot []

-- whether a rest has a text
abbrev pub has_text : {T : Type 0} → List (Item T) → Bool
has_text [] = false
has_text (Tok t ∷ rest) = has_text rest
has_text (Frozen t ∷ rest) = has_text rest
has_text (Text p ∷ rest) = true

-- a rest whose first text, if it has one, is ended
abbrev pub end_text : {T : Type 0} → List (Item T) → List (Item T)
end_text [] = []
end_text (Tok t ∷ rest) = Tok t ∷ end_text rest
end_text (Frozen t ∷ rest) = Frozen t ∷ end_text rest
end_text (Text p ∷ rest) = Text (ended p) ∷ rest

-- the same of several rests, one behind the other: it is the first text of all
abbrev pub end_rests : {T : Type 0} → List (List (Item T)) → List (List (Item T))
end_rests [] = []
end_rests (rest ∷ rests) = end_text rest ∷ (if has_text rest then rests else end_rests rests)

-- how much is still to be read: a line that isn't loaded counts two more than its characters
abbrev pub row_size : Option (List ℕ) → ℕ
row_size (Some text) = length text + 2
row_size None = 2

abbrev pub page_size : Page → ℕ
page_size p = 1 + length p.spot.tail + sum_by (λ row. row_size row.text) p.rows

abbrev pub item_size : {T : Type 0} → Item T → ℕ
item_size (Tok t) = 1
item_size (Frozen t) = 1
item_size (Text p) = page_size p

abbrev pub size : {T : Type 0} → List (Item T) → ℕ
size items = sum_by item_size items
