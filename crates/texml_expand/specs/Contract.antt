-- What a call of the engine does, by a definition's answer.
use Rattle.std.specs.Prelude.{◌≡◌, ◌+◌, ◌<◌, ◌≤◌, ℕ, IsTrue, List, Option, Some, None, Result, Ok, Err}
use Rattle.texml_base.specs.Rising.{Rose}
use Rattle.texml_expand.specs.declared.stop.Stop.{Stop}
use Rattle.texml_expand.specs.declared.stop.Stop.TheVariants as stop
use Rattle.texml_base.specs.Outside.{Shelf}
use Rattle.texml_input.specs.Rest.{Place}
use Rattle.texml_expand.specs.State.{State, room, Tex, Limit, nothing, loads, Answer, Done, Ended, Reading, IsDecided, fault_at}
use Rattle.texml_expand.specs.Held.{Held, state_of}

-- some depth decides, and gives this
pub record DecidesOn {A : Type 0} (reading : ℕ → Answer A) (answer : Answer A) : Type 0 where
  pub depth : ℕ
  pub is : reading depth ≡ answer
  pub decided : IsDecided answer

-- the stop that is kept behind an answer
abbrev pub stop_after : {A : Type 0} → Result A Stop → Option Stop
stop_after (Ok v) = None
stop_after (Err e) = Some e

-- what is outside: the files, their count of faults, that of who is told, and the loan that this one holds
pub record Outside : Type 0 where
  pub shelf : Shelf
  pub read_faults : ℕ
  pub tell_faults : ℕ
  pub loan : ℕ

abbrev pub outside : Shelf → ℕ → ℕ → ℕ → Outside
outside shelf reads tells loan = record { shelf = shelf; read_faults = reads; tell_faults = tells; loan = loan }

-- where nobody is told
abbrev pub files_at : Shelf → ℕ → Outside
files_at shelf reads = outside shelf reads 0 0

-- a count rose where it is blamed, and else it is as before
abbrev pub ReadsBecause : {A : Type 0} → Result A Stop → ℕ → ℕ → Type 0
ReadsBecause (Ok v) old new = new ≡ old
ReadsBecause (Err (stop.Tex f)) old new = new ≡ old
ReadsBecause (Err (stop.Limit n)) old new = new ≡ old
ReadsBecause (Err stop.ReadFailed) old new = Rose old new
ReadsBecause (Err stop.TellFailed) old new = new ≡ old
ReadsBecause (Err stop.NoMemory) old new = new ≡ old

abbrev pub TellsBecause : {A : Type 0} → Result A Stop → ℕ → ℕ → Type 0
TellsBecause (Ok v) old new = new ≡ old
TellsBecause (Err (stop.Tex f)) old new = new ≡ old
TellsBecause (Err (stop.Limit n)) old new = new ≡ old
TellsBecause (Err stop.ReadFailed) old new = new ≡ old
TellsBecause (Err stop.TellFailed) old new = Rose old new
TellsBecause (Err stop.NoMemory) old new = new ≡ old

-- the count of the files rose where reading is blamed, that of who is told where telling is, and no other did; the stop and the loan are kept
pub record Stops {A : Type 0} (result : Result A Stop) (old new : Outside) (kept_stop : Option Stop) : Type 0 where
  pub kept : kept_stop ≡ stop_after result
  pub reads : ReadsBecause result old.read_faults new.read_faults
  pub tells : TellsBecause result old.tell_faults new.tell_faults
  pub loan : new.loan ≡ old.loan

-- an answer without gains: the value and the state behind it, or the end. Nothing that can fail is asked
abbrev pub Silent : {A : Type 0} → Answer A → Result A Stop → State → Type 0
Silent answer (Ok v) s = answer ≡ Done v s nothing
Silent answer (Err (stop.Tex f)) s = answer ≡ Ended (Tex f) nothing
Silent answer (Err (stop.Limit n)) s = answer ≡ Ended (Limit n) nothing
Silent answer (Err stop.ReadFailed) s = ⊥
Silent answer (Err stop.TellFailed) s = ⊥
Silent answer (Err stop.NoMemory) s = Unit {0}

-- a reading that asks no file, whatever the files are
abbrev pub Local : {A : Type 0} → Reading A → Result A Stop → Held → Held → Type 0
Local reading result old new = (shelf : Shelf) → Silent (reading (state_of shelf old)) result (state_of shelf new)

-- an answer that gains no more than bytes that were loaded, where files are asked, which may fail
abbrev pub Quiet : {A : Type 0} → Answer A → Result A Stop → State → Type 0
Quiet answer (Ok v) s = (sizes : List ℕ) × (answer ≡ Done v s (loads sizes))
Quiet answer (Err (stop.Tex f)) s = (sizes : List ℕ) × (answer ≡ Ended (Tex f) (loads sizes))
Quiet answer (Err (stop.Limit n)) s = (sizes : List ℕ) × (answer ≡ Ended (Limit n) (loads sizes))
Quiet answer (Err stop.ReadFailed) s = Unit {0}
Quiet answer (Err stop.TellFailed) s = ⊥
Quiet answer (Err stop.NoMemory) s = Unit {0}

-- the same, if the files tell what they have
abbrev pub Reads : {A : Type 0} → Shelf → Answer A → Result A Stop → State → Type 0
Reads before answer result s = IsTrue before.tells → Quiet answer result s

-- for the copy of a fault memory may be refused
abbrev pub MayLackMemory : Stop → Type 0
MayLackMemory (stop.Tex f) = Unit {0}
MayLackMemory (stop.Limit n) = ⊥
MayLackMemory stop.ReadFailed = ⊥
MayLackMemory stop.TellFailed = ⊥
MayLackMemory stop.NoMemory = Unit {0}

-- a stopped engine answers the stop that it keeps
abbrev pub AnswersKept : {A : Type 0} → Stop → Result A Stop → Type 0
AnswersKept kept (Ok v) = ⊥
AnswersKept kept (Err (stop.Tex f)) = kept ≡ stop.Tex f
AnswersKept kept (Err (stop.Limit n)) = kept ≡ stop.Limit n
AnswersKept kept (Err stop.ReadFailed) = kept ≡ stop.ReadFailed
AnswersKept kept (Err stop.TellFailed) = kept ≡ stop.TellFailed
AnswersKept kept (Err stop.NoMemory) = MayLackMemory kept

-- this fault at the place, or want of memory
abbrev pub IsFaultAt : ℕ → List ℕ → Place → Stop → Type 0
IsFaultAt code about place (stop.Tex f) = f ≡ fault_at code about place
IsFaultAt code about place (stop.Limit n) = ⊥
IsFaultAt code about place stop.ReadFailed = ⊥
IsFaultAt code about place stop.TellFailed = ⊥
IsFaultAt code about place stop.NoMemory = Unit {0}

-- t comes after s, and where no expansion began there is less left to read by k; no more begin than may
pub record Lower (k : ℕ) (s t : State) : Type 0 where
  pub limit : t.limit ≡ s.limit
  pub nesting : t.nesting ≡ s.nesting
  pub begun : s.begun ≤ t.begun
  pub size : t.begun ≡ s.begun → room t + k ≤ room s
  pub within : s.begun < t.begun → t.begun ≤ t.limit

-- an expansion began between s and t, and no more than may
pub record Begins (s t : State) : Type 0 where
  pub limit : t.limit ≡ s.limit
  pub nesting : t.nesting ≡ s.nesting
  pub begun : s.begun < t.begun
  pub within : t.begun ≤ t.limit
