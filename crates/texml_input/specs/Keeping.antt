-- What a call does to the files that an input holds, and to what it has set aside.
use Rattle.std.specs.Prelude.{◌≡◌, ◌≤◌, ℕ, ◌+◌, ◌*◌, ◌==◌, false, List, length, Result, Ok, Err, IsErrOf}
use Rattle.std.specs.List.{count_by}
use Rattle.texml_base.specs.Rising.{Rose, add_up}
use Rattle.texml_base.specs.Outside.{Shelf, SameAt, in_use}
use Rattle.texml_text.specs.Reader.{block}
use Rattle.texml_input.specs.Held.{Source, ids_of, AreHeld, ahead_of}
use Rattle.texml_input.specs.declared.fault.InputFault.{InputFault}
use Rattle.texml_input.specs.declared.fault.InputFault.TheVariants as fault

-- how often an id stands there
abbrev pub times : ℕ → List ℕ → ℕ
times id = count_by (λ x. x == id)

-- the input holds its files: each id stays in use until it is closed, and what is open in other hands is as before
pub record Holds (old new : Shelf) (a b : List Source) : Type 0 where
  pub tells : new.tells ≡ old.tells
  pub contents : new.contents ≡ old.contents
  pub held : AreHeld new.ids (ids_of b)
  pub exact : old.ids ≡ ids_of a → new.ids ≡ ids_of b
  -- an id was closed as often as the input holds it less often
  pub closed : (id : ℕ) → times id new.ids + times id (ids_of a) ≡ times id old.ids + times id (ids_of b)
  pub fewer : (id : ℕ) → in_use (ids_of a) id ≡ false → in_use (ids_of b) id ≡ false
  pub uses : (id : ℕ) → in_use (ids_of a) id ≡ false → in_use new.ids id ≡ in_use old.ids id
  pub others : (id : ℕ) → in_use (ids_of a) id ≡ false → SameAt old new id

-- files gave bytes: together with what was ahead before they are no more than what was loaded, what is ahead now, and one block for each closed file
pub record Spends (old new : Shelf) (a b : List Source) (loaded : ℕ) : Type 0 where
  pub given : ℕ
  pub total : new.total ≡ add_up old.total given
  pub balance : given + ahead_of a + block * length (ids_of b) ≤ loaded + ahead_of b + block * length (ids_of a)

-- a count of faults doesn't fall; it rose where reading failed, and is as before where it didn't
abbrev pub KeptUnlessFailed : {A : Type 0} → ℕ → ℕ → Result A InputFault → Type 0
KeptUnlessFailed before now (Ok v) = now ≡ before
KeptUnlessFailed before now (Err (fault.Invalid c)) = now ≡ before
KeptUnlessFailed before now (Err fault.NotUtf8) = now ≡ before
KeptUnlessFailed before now (Err fault.Failed) = Unit {0}
KeptUnlessFailed before now (Err fault.NoMemory) = now ≡ before

pub record HasInputCause {A : Type 0} (before now : ℕ) (result : Result A InputFault) : Type 0 where
  pub later : before ≤ now
  pub failed : IsErrOf result fault.Failed → Rose before now
  pub kept : KeptUnlessFailed before now result
