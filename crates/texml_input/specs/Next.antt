-- The first token of a rest (The TeXbook, chapters 7 and 8).
use Rattle.std.specs.Prelude.{ℕ, ◌+◌, Bool, true, false, ◌||◌, List, [], ◌∷◌, Option, Some, None}
use Rattle.texml_base.specs.Rising.{add_up}
use Rattle.texml_token.specs.Token.{Token}
use Rattle.texml_text.specs.Lines.{loaded}
use Rattle.texml_text.specs.File.{Row}
use Rattle.texml_mouth.specs.Mouth.{Spot, Bite, Gives, Dry, Bad, bites}
use Rattle.texml_input.specs.Rest.{Page, Item, Tok, Frozen, Text, Place, page, start}

-- what was taken: a token, whether it is frozen, and whether a text ended on the way to it
pub record Taken : Type 0 where
  pub token : Token
  pub frozen : Bool
  pub crossed : Bool

-- a token, and the rest and the place behind it; the end; a character that may not stand there; or a line that is not UTF-8.
-- Each with the bytes of the lines that were loaded
pub data Given : Type 0 where
  Got : Taken → List (Item Token) → Place → ℕ → Given
  AtEnd : Place → ℕ → Given
  Invalid : ℕ → Place → ℕ → Given
  NotUtf8 : Place → ℕ → Given

-- the same, where so many bytes were loaded, and perhaps a text has ended, before it
abbrev pub behind : ℕ → Bool → Given → Given
behind bytes ended (Got r rest place more) = Got (record r { crossed = ended || r.crossed }) rest place (bytes + more)
behind bytes ended (AtEnd place more) = AtEnd place (bytes + more)
behind bytes ended (Invalid c place more) = Invalid c place (bytes + more)
behind bytes ended (NotUtf8 place more) = NotUtf8 place (bytes + more)

-- the bytes that were loaded
abbrev pub bytes_of : Given → ℕ
bytes_of (Got r rest place bytes) = bytes
bytes_of (AtEnd place bytes) = bytes
bytes_of (Invalid c place bytes) = bytes
bytes_of (NotUtf8 place bytes) = bytes

abbrev pub taken : Token → Bool → Taken
taken t frozen = record { token = t; frozen = frozen; crossed = false }

-- what a line gives: a token, and then this rest; a character that may not stand there; or nothing, and then this
abbrev pub from_bite : Bite → Place → (Spot → List (Item Token)) → Given → Given
from_bite (Gives t spot) place rest dry = Got (taken t false) (rest spot) place 0
from_bite Dry place rest dry = dry
from_bite (Bad c) place rest dry = Invalid c place 0

-- what loading a line gives, at its place: what its characters give; a line that is not UTF-8 has none
abbrev pub from_row : Option (List ℕ) → ℕ → Place → (List ℕ → Given) → Given
from_row None bytes place onward = NotUtf8 place bytes
from_row (Some text) bytes place onward = behind bytes false (onward text)

-- the place in a text at this line
abbrev pub place_at : List ℕ → ℕ → Place
place_at name number = record { file = name; line = number }

module _ (cats : ℕ → ℕ) (end : Option ℕ) where
  -- a text before a rest, and what comes where the text has ended: the text's line gives a token, or else its next line is loaded
  abbrev pub text_next : List ℕ → List (Item Token) → (Place → Given) → List Row → ℕ → Spot → Place → Given
  text_next name rest after [] number spot place =
      from_bite (bites cats spot) place (λ s. Text (page name number s []) ∷ rest) (behind 0 true (after place))
  text_next name rest after (row ∷ rows) number spot place =
      from_bite (bites cats spot) place (λ s. Text (page name number s (row ∷ rows)) ∷ rest)
      (from_row row.text row.size (place_at name (add_up number 1))
      (λ text. text_next name rest after rows (add_up number 1) (start (loaded end text)) (place_at name (add_up number 1))))

  abbrev pub page_next : List (Item Token) → (Place → Given) → Page → Place → Given
  page_next rest after p place = text_next p.name rest after p.rows p.number p.spot place

  abbrev pub next : List (Item Token) → Place → Given
  next [] place = AtEnd place 0
  next (Tok t ∷ rest) place = Got (taken t false) rest place 0
  next (Frozen t ∷ rest) place = Got (taken t true) rest place 0
  next (Text p ∷ rest) place = page_next rest (next rest) p place
