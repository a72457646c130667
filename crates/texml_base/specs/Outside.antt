-- What the calls of a sink and of a folder of files do to what these stand for.
use Rattle.std.specs.Prelude.{◌≡◌, ◌≢◌, ℕ, ◌+◌, ◌≤◌, List, [], ◌∷◌, ◌++◌, length, take, Bool, true, false, if◌then◌else◌, ◌==◌, IsTrue, Result, Ok, Err, MatchResult, OnOk, OnErr, IsErrOf, None, Some}
use Rattle.std.specs.declared.option.Option.{Option}
use Rattle.std.specs.Option.{option_map}
use Rattle.texml_base.specs.Rising.{Rose, add_up}
use Rattle.texml_base.specs.declared.files.Trouble.{Trouble}
use Rattle.texml_base.specs.declared.files.Trouble.TheVariants.{Failed, NoMemory}

-- a count of faults doesn't fall; it rose where there was an error, and is as before where there was none
pub record HasCause {T E : Type 0} (before now : ℕ) (result : Result T E) : Type 0 where
  pub later : before ≤ now
  pub failed : OnErr result (Rose before now)
  pub kept : OnOk result (now ≡ before)

-- What a sink has taken: its bytes and their number, each where it is told.
pub record Ink : Type 0 where
  pub bytes : Option (List ℕ)
  pub count : Option ℕ

-- the bytes are appended, and count
abbrev pub inked : Ink → List ℕ → Ink
inked ink piece = record {
  bytes = option_map (λ xs. xs ++ piece) ink.bytes;
  count = option_map (λ n. add_up n (length piece)) ink.count;
}

-- the piece was taken whole, or at an error a prefix of it
abbrev pub Takes : {E : Type 0} → Ink → Ink → Result (Unit {0}) E → List ℕ → Type 0
Takes old new result piece = MatchResult result (λ _. new ≡ inked old piece) (λ _. (n : ℕ) × (new ≡ inked old (take n piece)))

-- What a folder of files stands for at a moment.
pub record Shelf : Type 0 where
  -- whether it tells what its files hold
  pub tells : Bool
  -- the bytes of the file of a name, if there is one
  pub contents : List ℕ → Option (List ℕ)
  -- the ids in use, the newest first
  pub ids : List ℕ
  -- what an id in use has given, and what it has left
  pub given : ℕ → List ℕ
  pub left : ℕ → List ℕ
  -- a number that falls by each byte that an id gives
  pub number : ℕ → ℕ
  -- the bytes given in all
  pub total : ℕ

-- whether an id is in use
abbrev pub in_use : List ℕ → ℕ → Bool
in_use [] id = false
in_use (x ∷ xs) id = if x == id then true else in_use xs id

-- the ids without one of them
abbrev pub without : ℕ → List ℕ → List ℕ
without id [] = []
without id (x ∷ xs) = if x == id then xs else x ∷ without id xs

-- an id is as before: what it has given, what it has left, and the number of what it may still give
pub record SameAt (old new : Shelf) (id : ℕ) : Type 0 where
  pub given : new.given id ≡ old.given id
  pub left : new.left id ≡ old.left id
  pub number : new.number id ≡ old.number id

-- all but one id is as before
abbrev pub OthersSame : Shelf → Shelf → ℕ → Type 0
OthersSame old new id = (k : ℕ) → k ≢ id → SameAt old new k

-- a new id has given nothing and has the file's bytes left
pub record IsOpened (old new : Shelf) (name : List ℕ) (id : ℕ) : Type 0 where
  pub tells : new.tells ≡ old.tells
  pub contents : new.contents ≡ old.contents
  pub fresh : in_use old.ids id ≡ false
  pub ids : new.ids ≡ id ∷ old.ids
  pub given : IsTrue old.tells → new.given id ≡ []
  pub left : IsTrue old.tells → old.contents name ≡ Some (new.left id)
  pub total : new.total ≡ old.total
  pub others : OthersSame old new id

-- there is no such file
pub record IsMissing (old new : Shelf) (name : List ℕ) : Type 0 where
  pub same : new ≡ old
  pub none : IsTrue old.tells → old.contents name ≡ None

-- an id has given these bytes more, and no byte only at its end
pub record IsRead (old new : Shelf) (id : ℕ) (piece : List ℕ) : Type 0 where
  pub tells : new.tells ≡ old.tells
  pub contents : new.contents ≡ old.contents
  pub ids : new.ids ≡ old.ids
  pub number : new.number id + length piece ≡ old.number id
  pub given : IsTrue old.tells → new.given id ≡ old.given id ++ piece
  pub left : IsTrue old.tells → old.left id ≡ piece ++ new.left id
  pub end : IsTrue old.tells → length piece ≡ 0 → old.left id ≡ []
  pub total : IsTrue old.tells → new.total ≡ add_up old.total (length piece)
  pub others : OthersSame old new id

-- an id is in use no more
pub record IsClosed (old new : Shelf) (id : ℕ) : Type 0 where
  pub tells : new.tells ≡ old.tells
  pub contents : new.contents ≡ old.contents
  pub ids : new.ids ≡ without id old.ids
  pub total : new.total ≡ old.total
  pub others : OthersSame old new id

-- what opening a name does
abbrev pub Opens : Shelf → Shelf → List ℕ → Result (Option ℕ) Trouble → Type 0
Opens old new name (Ok (Some id)) = IsOpened old new name id
Opens old new name (Ok None) = IsMissing old new name
Opens old new name (Err e) = new ≡ old

-- what reading from an id into a buffer does
abbrev pub ReadsFile : Shelf → Shelf → ℕ → Result ℕ Trouble → List ℕ → Type 0
ReadsFile old new id result buffer = MatchResult result (λ n. (n ≤ length buffer) × IsRead old new id (take n buffer)) (λ _. new ≡ old)

-- a count of faults is as before where a call on files didn't fail
abbrev pub KeptUnlessFailed : {T : Type 0} → ℕ → ℕ → Result T Trouble → Type 0
KeptUnlessFailed before now (Ok v) = now ≡ before
KeptUnlessFailed before now (Err Failed) = Unit {0}
KeptUnlessFailed before now (Err NoMemory) = now ≡ before

-- a count of faults doesn't fall; it rose where a call failed, and is as before where it didn't
pub record HasTroubleCause {T : Type 0} (before now : ℕ) (result : Result T Trouble) : Type 0 where
  pub later : before ≤ now
  pub failed : IsErrOf result Failed → Rose before now
  pub kept : KeptUnlessFailed before now result
