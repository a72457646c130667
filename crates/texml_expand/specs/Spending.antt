-- How many bytes a call of the engine reads of its files, by what its definition gains.
use Rattle.std.specs.Prelude.{◌≡◌, ◌≤◌, ℕ, ◌+◌, ◌*◌, Bool, true, false, if◌then◌else◌, IsTrue, List, length, Result, Ok, Err}
use Rattle.texml_base.specs.Rising.{add_up}
use Rattle.texml_base.specs.Outside.{Shelf}
use Rattle.texml_text.specs.Reader.{block}
use Rattle.texml_input.specs.Held.{Source, ids_of, ahead_of, AreLittle, AreLittlePast, front_size}
use Rattle.texml_expand.specs.declared.stop.Stop.{Stop}
use Rattle.texml_expand.specs.declared.stop.Stop.TheVariants as stop
use Rattle.texml_expand.specs.State.{Gains, bytes_in, Answer, added}
use Rattle.texml_expand.specs.Contract.{DecidesOn}
use Rattle.texml_expand.specs.Held.{Held}

-- reading may have broken off inside a line that was being loaded, where a read failed or memory was refused
abbrev pub MayBreak : {A : Type 0} → Result A Stop → Bool → Type 0
MayBreak (Ok v) breaks = breaks ≡ false
MayBreak (Err (stop.Tex f)) breaks = breaks ≡ false
MayBreak (Err (stop.Limit n)) breaks = breaks ≡ false
MayBreak (Err stop.ReadFailed) breaks = Unit {0}
MayBreak (Err stop.TellFailed) breaks = breaks ≡ false
MayBreak (Err stop.NoMemory) breaks = Unit {0}

-- few bytes are held of each file past its line last loaded; where reading broke off, past the line that was being loaded
abbrev pub AreLittleIf : Bool → List Source → Type 0
AreLittleIf true sources = AreLittlePast sources
AreLittleIf false sources = AreLittle sources

-- so many bytes were loaded, and so many files opened: no more than these gains have, where reading broke off inside a line with the bytes of that
-- line too. What files gave, together with what was ahead before, is no more than what was loaded, what is ahead now, and one block for each file
-- that was closed
pub record Spent {A : Type 0} (result : Result A Stop) (old new : Shelf) (a b : List Source) (gains : Gains) : Type 0 where
  pub loaded : ℕ
  pub opened : ℕ
  pub breaks : Bool
  pub may : MayBreak result breaks
  pub within : loaded + (if breaks then front_size new b else 0) ≤ bytes_in gains
  pub files : opened ≤ length gains.opened
  pub given : ℕ
  pub total : new.total ≡ add_up old.total given
  pub balance : given + ahead_of a + block * length (ids_of b) ≤ loaded + ahead_of b + block * (length (ids_of a) + opened)
  pub little : AreLittleIf breaks b

-- the same of an answer, if the files tell what they have, and few bytes were ahead before
abbrev pub Spends : {A B : Type 0} → Answer A → Result B Stop → Shelf → Shelf → Held → Held → Type 0
Spends answer result before now old new = IsTrue before.tells → AreLittle old.input.sources → Spent result before now old.input.sources new.input.sources (added answer)

-- of the answer that a definition gives
pub record SpentBy {A B : Type 0} (reading : ℕ → Answer A) (result : Result B Stop) (old new : Shelf) (a b : List Source) : Type 0 where
  pub answer : Answer A
  pub given : DecidesOn reading answer
  pub spent : Spent result old new a b (added answer)

abbrev pub SpendsBy : {A B : Type 0} → (ℕ → Answer A) → Result B Stop → Shelf → Shelf → Held → Held → Type 0
SpendsBy reading result before now old new = IsTrue before.tells → AreLittle old.input.sources → SpentBy reading result before now old.input.sources new.input.sources
