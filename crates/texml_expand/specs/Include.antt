-- Files are put before what is to be read: \input and \endinput (The TeXbook, chapters 20 and 24).
use Rattle.std.specs.Prelude.{ℕ, ◌+◌, Bool, true, false, nat_le, if◌then◌else◌, List, [], ◌∷◌, map, sum_by, Option, Some, None, unwrap_or, encode_utf8_all}
use Rattle.std.specs.List.{list_all}
use Rattle.texml_token.specs.Token.{Token, Char, has_category}
use Rattle.texml_token.specs.declared.category.TheConstants.{BEGIN_GROUP}
use Rattle.texml_token.specs.declared.fault_code.TheConstants.{DEPTH, MISSING_FILE, MISSING_ENDCSNAME}
use Rattle.texml_text.specs.File.{rows}
use Rattle.texml_input.specs.Rest.{Page, Item, Tok, Frozen, Text, fresh, end_rests}
use Rattle.texml_input.specs.Next.{Taken}
use Rattle.texml_input.specs.Searching.{names_tried, first_there}
use Rattle.texml_expand.specs.declared.engine.including.TheConstants.{MOST_FILES}
use Rattle.texml_expand.specs.declared.gathering.Gathering.TheVariants.{FileName, All}
use Rattle.texml_expand.specs.State.{State, Done, Reading, opens, ◌>>=◌, ◌>>◌, give, fail, change}
use Rattle.texml_expand.specs.Take.{back}
use Rattle.texml_expand.specs.Arguments.{behind_spaces, read_argument}
use Rattle.texml_expand.specs.Names.{text_of}
use Rattle.texml_expand.specs.Calls.{Gift, Puts, Opens, Calls}
use Rattle.texml_expand.specs.Begin.{finish}

-- Tokens that are read alone

abbrev pub with_rests : List (List (Item Token)) → State → State
with_rests [] s = s
with_rests (rest ∷ aside) s = record s { rest = rest; aside = aside }

-- these tokens are what is to be read, and all else is set aside
abbrev pub alone : List Token → State → State
alone list s = record s { rest = map Tok list; aside = s.rest ∷ s.aside }

-- what was set aside last is what is to be read
abbrev pub taken_up : State → State
taken_up s = with_rests s.aside s

abbrev pub argument_alone : Reading (Unit {0})
argument_alone = do
  list ← read_argument
  change (alone list)

-- all that is left, expanded
abbrev pub all_left : Calls → Reading (List Token)
all_left calls = do
  list ← calls.gather All []
  change taken_up
  give list

-- The name of a file

abbrev pub is_char : Token → Bool
is_char (Char c category) = true
is_char t = false

-- the text of characters in UTF-8
abbrev pub bytes_of : List Token → List ℕ
bytes_of list = encode_utf8_all (text_of list)

-- a name has only characters
abbrev pub characters : List Token → Reading (List ℕ)
characters list = if list_all is_char list then give (bytes_of list) else fail MISSING_ENDCSNAME []

-- an argument, which is expanded alone, and has only characters
abbrev pub name_argument : Calls → Reading (List ℕ)
name_argument calls = do
  argument_alone
  list ← all_left calls
  characters list

-- characters, up to a space or another token
abbrev pub plain_name : Calls → Reading (List ℕ)
plain_name calls = do
  list ← calls.gather FileName []
  give (bytes_of list)

-- a token goes back, and may be expanded from then on
abbrev pub returned : Option Taken → State → State
returned None s = s
returned (Some t) s = back t.token false s

abbrev pub begins_group : Option Taken → Bool
begins_group None = false
begins_group (Some t) = has_category BEGIN_GROUP t.token

abbrev pub name_by : Calls → Bool → Reading (List ℕ)
name_by calls true = name_argument calls
name_by calls false = plain_name calls

-- the next token behind spaces, which stays
abbrev pub peeked : Reading (Option Taken)
peeked = do
  t ← behind_spaces
  change (returned t)
  give t

-- behind spaces a brace begins an argument
abbrev pub file_name : Calls → Reading (List ℕ)
file_name calls = do
  t ← peeked
  name_by calls (begins_group t)

-- Files

-- how many texts of files are still to be read
abbrev pub texts : List (Item Token) → ℕ
texts [] = 0
texts (Tok t ∷ rest) = texts rest
texts (Frozen t ∷ rest) = texts rest
texts (Text p ∷ rest) = 1 + texts rest

abbrev pub open_texts : State → ℕ
open_texts s = texts s.rest + sum_by texts s.aside

-- the text of a file that there is: all its lines are still to be read
abbrev pub whole_text : (List ℕ → Option (List ℕ)) → List ℕ → Page
whole_text contents name = fresh name (rows (unwrap_or (contents name) []))

abbrev pub found : List ℕ → Option (List ℕ) → Reading Gift
found name None s = fail MISSING_FILE name s
found name (Some there) s = Done (Opens (whole_text s.contents there)) s (opens there)

-- the file that a name means, which is the first that there is of the names that are tried. So many may be open and no more
abbrev pub opened : List ℕ → Reading Gift
opened name s = if nat_le MOST_FILES (open_texts s) then fail DEPTH [] s else found name (first_there s.contents (names_tried name)) s

-- \input puts the text of a file before what is to be read
abbrev pub include : Calls → Reading Gift
include calls = do
  name ← file_name calls
  opened name

-- so an expansion ends that opens the file of a name
abbrev pub opening : Token → List ℕ → Reading (Unit {0})
opening t name = do
  gift ← opened name
  finish t gift

-- \endinput ends the first text behind its line that was loaded last
abbrev pub text_ended : State → State
text_ended s = with_rests (end_rests (s.rest ∷ s.aside)) s

abbrev pub end_input : Reading Gift
end_input = do
  change text_ended
  give (Puts [])
