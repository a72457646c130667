-- What a reader of lines shows, and what its answers say of the file.
use Rattle.std.specs.Prelude.{◌≡◌, ◌≤◌, ℕ, ◌+◌, ◌*◌, ◌==◌, if◌then◌else◌, Bool, true, List, [], ◌∷◌, ◌++◌, length, Option, Some, None, Result, Ok, Err, IsErrOf}
use Rattle.std.specs.List.{list_any}
use Rattle.texml_base.specs.Rising.{Rose, add_up}
use Rattle.texml_base.specs.Outside.{Shelf, OthersSame}
use Rattle.texml_text.specs.Lines.{line_feed, loaded}
use Rattle.texml_text.specs.File.{Row, rows_of_rest}
use Rattle.texml_text.specs.declared.reader.LineFault.{LineFault}
use Rattle.texml_text.specs.declared.reader.LineFault.TheVariants.{NotUtf8, Failed, NoMemory}

-- its file's id; the bytes that the file gave and that are in no line yet; whether it has given no line; how many lines it gave, up to the greatest
-- number; and the fault that is its answer from now on
pub record Reader : Type 0 where
  pub id : ℕ
  pub held : List ℕ
  pub fresh : Bool
  pub number : ℕ
  pub fault : Option LineFault

-- a reader of which nothing was asked
abbrev pub fresh_reader : ℕ → Reader
fresh_reader id = record { id = id; held = []; fresh = true; number = 0; fault = None }

-- the lines still to come: of the bytes at hand and, behind them, those that the file still has
abbrev pub rows_left : Shelf → Reader → List Row
rows_left shelf r = rows_of_rest r.fresh (r.held ++ shelf.left r.id)

-- what an answer says of the lines left before it; the others are those left behind it
abbrev pub GivesLine : Option ℕ → List Row → Result (Option (List ℕ)) LineFault → List Row → Type 0
GivesLine end old (Ok (Some line)) new =
    (text : List ℕ) × (size : ℕ) × (old ≡ record { text = Some text; size = size } ∷ new) × (line ≡ loaded end text)
GivesLine end old (Ok None) new = (old ≡ []) × (new ≡ [])
GivesLine end old (Err NotUtf8) new = (size : ℕ) × (old ≡ record { text = None; size = size } ∷ new)
GivesLine end old (Err Failed) new = new ≡ old
GivesLine end old (Err NoMemory) new = new ≡ old

-- the number of the line last taken, behind an answer
abbrev pub number_after : Result (Option (List ℕ)) LineFault → ℕ → ℕ
number_after (Ok (Some line)) number = add_up number 1
number_after (Ok None) number = number
number_after (Err NotUtf8) number = add_up number 1
number_after (Err Failed) number = number
number_after (Err NoMemory) number = number

-- the fault that is kept behind an answer
abbrev pub fault_after : {A : Type 0} → Result A LineFault → Option LineFault
fault_after (Ok v) = None
fault_after (Err e) = Some e

-- at most one file gave bytes
pub record Touches (old new : Shelf) (id : ℕ) : Type 0 where
  pub tells : new.tells ≡ old.tells
  pub contents : new.contents ≡ old.contents
  pub ids : new.ids ≡ old.ids
  pub others : OthersSame old new id

-- how much a reader may still take: three for each byte that it holds, and four for each that its file may give
abbrev pub room : Shelf → Reader → ℕ
room shelf r = 3 * length r.held + 4 * shelf.number r.id

-- how much an answer takes of that at least
abbrev pub weight : Option (List ℕ) → ℕ
weight (Some line) = length line + 1
weight None = 0

-- the bytes of the line that an answer takes, where these lines were left
abbrev pub first_size : List Row → ℕ
first_size [] = 0
first_size (r ∷ rows) = r.size

abbrev pub bytes_loaded : Result (Option (List ℕ)) LineFault → List Row → ℕ
bytes_loaded (Ok (Some line)) rows = first_size rows
bytes_loaded (Ok None) rows = 0
bytes_loaded (Err NotUtf8) rows = first_size rows
bytes_loaded (Err Failed) rows = 0
bytes_loaded (Err NoMemory) rows = 0

-- files gave bytes in a call: with those that were held before they are the bytes that were loaded and those that are held behind it
pub record Spends (old new : Shelf) (before loaded after : ℕ) : Type 0 where
  pub given : ℕ
  pub total : new.total ≡ add_up old.total given
  pub balance : given + before ≡ loaded + after

-- how many bytes are read at once, and how many may be held past the end of a line
abbrev pub block : ℕ
block = 4096

-- bytes have a line feed
abbrev pub has_feed : List ℕ → Bool
has_feed = list_any (λ b. b == line_feed)

-- the bytes past the end of the first line, which is not all of them
abbrev pub past_line : List ℕ → ℕ
past_line [] = 0
past_line (b ∷ bytes) = if b == line_feed then length bytes else past_line bytes

-- little is held: past the line last taken, or past the line that was to be taken, where the reading of it broke off
abbrev pub HoldsLittle : Result (Option (List ℕ)) LineFault → List ℕ → Type 0
HoldsLittle (Ok o) held = length held ≤ block
HoldsLittle (Err NotUtf8) held = length held ≤ block
HoldsLittle (Err Failed) held = past_line held ≤ block
HoldsLittle (Err NoMemory) held = past_line held ≤ block

-- a count of faults doesn't fall; it rose where reading failed, and is as before where it didn't
abbrev pub KeptUnlessFailed : {A : Type 0} → ℕ → ℕ → Result A LineFault → Type 0
KeptUnlessFailed before now (Ok v) = now ≡ before
KeptUnlessFailed before now (Err NotUtf8) = now ≡ before
KeptUnlessFailed before now (Err Failed) = Unit {0}
KeptUnlessFailed before now (Err NoMemory) = now ≡ before

pub record HasLineCause {A : Type 0} (before now : ℕ) (result : Result A LineFault) : Type 0 where
  pub later : before ≤ now
  pub failed : IsErrOf result Failed → Rose before now
  pub kept : KeptUnlessFailed before now result
