-- The lines of a file, by its bytes (The TeXbook, chapter 8).
use Rattle.std.specs.Prelude.{ℕ, ℤ, pos, negsuc, ◌+◌, ◌==◌, ◌&&◌, Bool, true, false, List, [], ◌∷◌, ◌++◌, if◌then◌else◌, length, drop, Option, None, Some}
use Rattle.std.specs.Str.{chars, is_utf8}
use Rattle.std.specs.Str.Lines.{strip_carriage_return}
use lib.Utf8.{scalar}
use Rattle.texml_text.specs.Lines.{line_feed}

-- a line: its characters, which are none where its bytes are not UTF-8, and how many bytes of the file it takes, its line feed among them
pub record Row : Type 0 where
  pub text : Option (List ℕ)
  pub size : ℕ

-- the line of these bytes
abbrev pub row : List ℕ → ℕ → Row
row line size = record { text = if is_utf8 line then Some (chars line) else None; size = size }

-- the last line, which is none where it is empty
abbrev pub last_row : List ℕ → List Row
last_row [] = []
last_row (b ∷ line) = row (b ∷ line) (length (b ∷ line)) ∷ []

-- the lines of these bytes, of whose first line some bytes stand before them. A line ends at a line feed, and a carriage return just before that goes
abbrev pub rows_behind : List ℕ → List ℕ → List Row
rows_behind line [] = last_row line
rows_behind line (b ∷ bytes) =
    if b == line_feed then row (strip_carriage_return line) (length line + 1) ∷ rows_behind [] bytes
    else rows_behind (line ++ b ∷ []) bytes

-- a byte order mark in UTF-8, and whether bytes begin with one
abbrev pub mark_size : ℕ
mark_size = 3

abbrev pub begins_with_mark : List ℕ → Bool
begins_with_mark (a ∷ b ∷ c ∷ bytes) = a == 0xEF && b == 0xBB && c == 0xBF
begins_with_mark bytes = false

-- the first line takes so many bytes more
abbrev pub with_bytes : ℕ → List Row → List Row
with_bytes more [] = []
with_bytes more (r ∷ rows) = record r { size = more + r.size } ∷ rows

-- the lines of the rest of a file. A byte order mark at the very start of the file is dropped; its bytes are the first line's
abbrev pub rows_of_rest : Bool → List ℕ → List Row
rows_of_rest fresh bytes =
    if fresh && begins_with_mark bytes then with_bytes mark_size (rows_behind [] (drop mark_size bytes))
    else rows_behind [] bytes

-- the lines of a file
abbrev pub rows : List ℕ → List Row
rows = rows_of_rest true

-- the character that a number is the code of, if it is one
abbrev pub character : ℤ → Option ℕ
character (pos c) = if scalar c then Some c else None
character (negsuc c) = None
