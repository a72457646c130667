-- How a run starts on its file.
use Rattle.std.proofs.Common.{◌≡◌, ◌∙◌, ℕ, List, [], ◌∷◌, IsTrue, Some, None, Err, refl, ap}
use Rattle.std.proofs.lemmas.Bool.{eq-eqb}
use Rattle.texml_base.specs.Outside.{Shelf, IsOpened, HasTroubleCause, without}
use Rattle.texml_base.specs.declared.files.Trouble.{Trouble}
use Rattle.texml_base.specs.declared.files.Trouble.TheVariants as trouble
use Rattle.texml_token.specs.declared.fault_code.TheConstants.{MISSING_FILE}
use Rattle.texml_input.specs.Rest.{no_place}
use Rattle.texml_input.specs.Held.{Held as HeldInput, File, fresh_file}
use Rattle.texml_input.specs.Searching.{names_tried, first_there}
use Rattle.texml_expand.specs.Held.{Held, state_of}
use Rattle.texml_expand.specs.Include.{whole_text}
use Rattle.texml_top.specs.Outcome.{before, main_text}
use Rattle.texml_top.specs.Run.{FilesBlamed, unread}
use Rattle.texml_top.specs.Start.{IsStatusAt, IsEmpty, IsFirst, Starts}
use Rattle.texml_top.specs.declared.status.Status.{Status}
use Rattle.texml_top.specs.declared.status.Status.TheVariants as status

-- an engine with the main file alone in its input
module _ (old now : Shelf) (name found : List ℕ) (id limit : ℕ) (made : Held) (input : HeldInput) (empty : IsEmpty name limit made) (opened : IsOpened old now found id)
    (is : input ≡ record made.input { sources = File (fresh_file id found) ∷ made.input.sources }) where
  -- what it reads
  alone : record made { input = input } ≡ record made { input = record { sources = File (fresh_file id found) ∷ []; place = no_place; fault = None } }
  alone = ap (λ i. record made { input = i }) (is ∙ ap (λ (i : HeldInput). record i { sources = File (fresh_file id found) ∷ i.sources }) empty.input)

  text_is : IsTrue old.tells → whole_text old.contents found ≡ whole_text (λ n. Some (now.left id)) found
  text_is told = rw (opened.left told) refl

  pub starts_on : (IsTrue old.tells → first_there old.contents (names_tried name) ≡ Some found) → IsTrue old.tells → IsFirst old.contents name limit (main_text old.contents name) now (record made { input = input })
  starts_on there told = (
    whole_text old.contents found,
    rw (there told) refl,
    ap (state_of now) alone ∙ rw (empty.world, empty.kept, empty.conditionals, empty.main, empty.begun, empty.limit, empty.nesting, empty.absorbing, opened.contents, text_is told) refl,
  )

-- a file that isn't there
pub no_file : (old now : Shelf) (name : List ℕ) (limit : ℕ) (s : Status) → (IsTrue old.tells → first_there old.contents (names_tried name) ≡ None) → IsStatusAt MISSING_FILE name (before name) s → Starts old now name limit (Err s)
no_file old now name limit status.Done none h = h
no_file old now name limit (status.Usage k) none h = h
no_file old now name limit (status.Tex f) none h = λ told. rw (none told, h) refl
no_file old now name limit (status.Model f) none h = h
no_file old now name limit (status.Limit n) none h = h
no_file old now name limit status.ReadFault none h = tt
no_file old now name limit status.WriteFault none h = h
no_file old now name limit status.NoMemory none h = tt

pub no_file_blames : (name : List ℕ) (s : Status) (m n : ℕ) → IsStatusAt MISSING_FILE name (before name) s → n ≡ m → FilesBlamed s m n
no_file_blames name status.Done m n h e = e
no_file_blames name (status.Usage k) m n h e = e
no_file_blames name (status.Tex f) m n h e = e
no_file_blames name (status.Model f) m n h e = e
no_file_blames name (status.Limit l) m n h e = e
no_file_blames name status.ReadFault m n h e = absurd h
no_file_blames name status.WriteFault m n h e = e
no_file_blames name status.NoMemory m n h e = e

-- files that can't be read
pub unread_starts : (old now : Shelf) (name : List ℕ) (limit : ℕ) (t : Trouble) → Starts old now name limit (Err (unread t))
unread_starts old now name limit trouble.Failed = tt
unread_starts old now name limit trouble.NoMemory = tt

pub unread_blames : {A : Type 0} (m n : ℕ) (t : Trouble) → HasTroubleCause {T = A} m n (Err t) → FilesBlamed (unread t) m n
unread_blames m n trouble.Failed h = h.failed refl
unread_blames m n trouble.NoMemory h = h.kept

-- the only file is closed
pub none_open : (old mid now : Shelf) (id : ℕ) → old.ids ≡ [] → mid.ids ≡ id ∷ old.ids → now.ids ≡ without id mid.ids → now.ids ≡ []
none_open old mid now id none opened closed = closed ∙ rw (opened, none, eq-eqb id id refl) refl
