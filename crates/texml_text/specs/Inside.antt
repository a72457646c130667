-- Only contracts of private functions need these: what filling a buffer does, and the first line of a buffer.
use Rattle.std.specs.Prelude.{◌≡◌, ◌≤◌, ℕ, ◌+◌, if◌then◌else◌, Bool, true, false, IsTrue, List, [], ◌∷◌, ◌++◌, length, drop, Option}
use Rattle.std.specs.List.{All}
use Rattle.std.specs.Char.{IsScalar}
use Rattle.std.specs.Str.{chars, is_utf8}
use Rattle.texml_base.specs.Rising.{add_up}
use Rattle.texml_base.specs.Outside.{Shelf}
use Rattle.texml_text.specs.Lines.{loaded}
use Rattle.texml_text.specs.File.{mark_size, row, rows_of_rest}
use Rattle.texml_text.specs.Reader.{Reader, has_feed, past_line}
use Rattle.texml_text.specs.declared.reader.Loaded.{Loaded}
use Rattle.texml_text.specs.declared.reader.Loaded.TheVariants.{Nothing, Line, NotUtf8, NoMemory}

-- bytes that a file gave were put behind others
pub record Filled (old new : Shelf) (id : ℕ) (before after : List ℕ) : Type 0 where
  pub given : List ℕ
  pub held : after ≡ before ++ given
  pub left : IsTrue old.tells → old.left id ≡ given ++ new.left id
  pub total : IsTrue old.tells → new.total ≡ add_up old.total (length given)
  pub number : new.number id + length given ≡ old.number id

-- bytes have a line feed, or nothing comes behind them
abbrev pub IsWhole : List ℕ → List ℕ → Type 0
IsWhole held more = has_feed held ≡ false → more ≡ []

-- the first line of bytes, by its own bytes and by how many it takes: the lines are that one and those behind it, whatever comes behind a whole line
pub record Cuts (fresh : Bool) (held line : List ℕ) (size : ℕ) : Type 0 where
  pub within : size ≤ length held
  pub shorter : length line ≤ size
  pub some : 1 ≤ size
  pub behind : length (drop size held) ≤ past_line held
  pub rows : (more : List ℕ) → IsWhole held more → rows_of_rest fresh (held ++ more) ≡ row line size ∷ rows_of_rest false (drop size held ++ more)

-- there is no line, if nothing comes behind; perhaps there is a mark
pub record CutsNone (fresh : Bool) (held : List ℕ) : Type 0 where
  pub few : length held ≤ (if fresh then mark_size else 0)
  pub no_feed : has_feed held ≡ false
  pub rows : rows_of_rest fresh held ≡ []

-- a reader that took a line of so many bytes
abbrev pub passed : ℕ → Reader → Reader
passed size r = record { id = r.id; held = drop size r.held; fresh = false; number = add_up r.number 1; fault = r.fault }

-- the bytes of the first line, with what they are
abbrev pub Loads : Option ℕ → Bool → List ℕ → Loaded → Type 0
Loads end fresh held Nothing = CutsNone fresh held
Loads end fresh held (Line line size) =
    (bytes : List ℕ) × Cuts fresh held bytes size × (is_utf8 bytes ≡ true) × (line ≡ loaded end (chars bytes)) × All IsScalar line
Loads end fresh held (NotUtf8 size) = (bytes : List ℕ) × Cuts fresh held bytes size × (is_utf8 bytes ≡ false)
Loads end fresh held NoMemory = Unit {0}
