-- How the program ends.
use Rattle.std.specs.Prelude.{◌≡◌, ℕ, List, [], map, IsTrue, Result, Ok, Err, string_bytes}
use Rattle.std.specs.declared.string.String.{String}
use Rattle.std.specs.declared.vec.Vec.{Vec}
use Rattle.std.specs.declared.alloc.Global.{Global}
use Rattle.texml_base.specs.Outside.{Shelf, Ink}
use Rattle.texml_base.specs.Rising.{Rose}
use Rattle.texml_top.specs.Request.{asked}
use Rattle.texml_top.specs.Outcome.{OfOutcome}
use Rattle.texml_top.specs.Run.{MayEnd, FilesBlamed, SinkBlamed, LateAsked, PageAsked, DocumentAsked, LinesAsked, FitsWords, TouchesNothing}
use Rattle.texml_top.specs.Reading.{ReadsAsked}
use Rattle.texml_top.specs.Start.{SameOutside}
use Rattle.texml_top.specs.Notes.{Noted}
use Rattle.texml_top.specs.declared.status.Status.{Status}
use Rattle.texml_top.specs.declared.status.Status.TheVariants as status
use Rattle.texml.specs.declared.words.WordsFault.{WordsFault}
use Rattle.texml.specs.declared.words.WordsFault.TheVariants.{NotText, NoMemory}

-- the exit code that stands for a status
abbrev pub exit_code : Status → ℕ
exit_code status.Done = 0
exit_code (status.Tex f) = 1
exit_code (status.Usage k) = 2
exit_code (status.Model f) = 4
exit_code (status.Limit n) = 5
exit_code status.ReadFault = 6
exit_code status.WriteFault = 7
exit_code status.NoMemory = 8

-- What the program sees of the outside: files and how often they failed, what was written and how often that failed, and
-- what was noted and how often that failed.
pub record Outside : Type 0 where
  pub shelf : Shelf
  pub reads : ℕ
  pub ink : Ink
  pub writes : ℕ
  pub notes : Ink
  pub note_faults : ℕ

-- the code is that of a status with which a run of these words may end: all that `run` of texml_top says of its status
pub record ExitsRun (words : List (List ℕ)) (old new : Outside) (code : ℕ) : Type 0 where
  pub status : Status
  pub is : code ≡ exit_code status
  pub meets : IsTrue old.shelf.tells → OfOutcome words old.shelf.contents (λ all. MayEnd status all old.ink new.ink)
  pub files_cause : FilesBlamed status old.reads new.reads
  pub out_cause : SinkBlamed status old.writes new.writes
  pub late : LateAsked (asked words) status old.ink new.ink
  pub page : IsTrue old.shelf.tells → OfOutcome words old.shelf.contents (PageAsked (asked words) status)
  pub document : DocumentAsked (asked words) status old.ink new.ink
  pub lines : IsTrue old.shelf.tells → (Rose old.writes new.writes → ⊥) → OfOutcome words old.shelf.contents (λ all. LinesAsked (asked words) all old.ink new.ink)
  pub words_fit : FitsWords (asked words) status
  pub untouched : TouchesNothing (asked words) old.shelf new.shelf old.ink new.ink
  pub notes : Noted status old.notes new.notes old.note_faults new.note_faults
  pub closed : new.shelf.ids ≡ []
  pub same : SameOutside old.shelf new.shelf
  pub little : IsTrue old.shelf.tells → ReadsAsked (asked words) old.shelf.contents old.shelf new.shelf

-- the code is that of this status, which is noted, and nothing was opened or written
pub record ExitsAtOnce (status : Status) (old new : Outside) (code : ℕ) : Type 0 where
  pub is : code ≡ exit_code status
  pub shelf : new.shelf ≡ old.shelf
  pub reads : new.reads ≡ old.reads
  pub ink : new.ink ≡ old.ink
  pub writes : new.writes ≡ old.writes
  pub notes : Noted status old.notes new.notes old.note_faults new.note_faults

-- what the code is for words that were read, or were not
abbrev pub ExitsFor : Result (Vec (String Global) Global) WordsFault → Outside → Outside → ℕ → Type 0
ExitsFor (Ok words) old new code = ExitsRun (map string_bytes words.items) old new code
ExitsFor (Err (NotText which)) old new code = ExitsAtOnce (status.Usage which) old new code
ExitsFor (Err NoMemory) old new code = ExitsAtOnce status.NoMemory old new code
