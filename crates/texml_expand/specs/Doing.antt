-- What a call of the engine does, as the private contracts of this crate say it.
use Rattle.std.specs.Prelude.{IsTrue, Result}
use Rattle.std.specs.Result.{OnOk}
use Rattle.texml_watch.specs.declared.record.Record.{Record}
use Rattle.texml_expand.specs.declared.stop.Stop.{Stop}
use Rattle.texml_expand.specs.State.{Reading}
use Rattle.texml_expand.specs.Contract.{Outside, Stops, Reads}
use Rattle.texml_expand.specs.Hearing.{Meets, FollowsTold}
use Rattle.texml_expand.specs.Held.{Held, state_of, Kept, Progress, IsAtLimit, Holding}
use Rattle.texml_expand.specs.Expand.{ByDepth}
use Rattle.texml_expand.specs.Spending.{Spends, SpendsBy}

-- what every call leaves behind: its stop is kept and has a cause, the engine stays sound, and its files are all that are open
pub record Runs {A : Type 0} (result : Result A Stop) (old new : Held) (before now : Outside) : Type 0 where
  pub stops : Stops result before now new.stop
  pub limit : IsAtLimit result new
  pub keeps : OnOk result (Kept old new)
  pub progress : Progress old new
  pub holds : Holding before.shelf now.shelf old new

-- besides, one that may expand follows a reading
pub record Does {T : Type 0} (hear part : T → Record → T → Type 0) {A : Type 0} (reading : ByDepth A) (result : Result A Stop) (old new : Held) (before now : Outside) (a b : T) : Type 0 where
  pub follows : FollowsTold hear part before.shelf (λ n. reading n (state_of before.shelf old)) result (state_of now.shelf new) a b
  pub spends : SpendsBy (λ n. reading n (state_of before.shelf old)) result before.shelf now.shelf old new
  pub stops : Stops result before now new.stop
  pub limit : IsAtLimit result new
  pub keeps : OnOk result (Kept old new)
  pub progress : Progress old new
  pub holds : Holding before.shelf now.shelf old new

-- and so does one that expands nothing but tells
pub record Tells {T : Type 0} (hear part : T → Record → T → Type 0) {A : Type 0} (reading : Reading A) (result : Result A Stop) (old new : Held) (before now : Outside) (a b : T) : Type 0 where
  pub meets : IsTrue before.shelf.tells → Meets hear part (reading (state_of before.shelf old)) result (state_of now.shelf new) a b
  pub spends : Spends (reading (state_of before.shelf old)) result before.shelf now.shelf old new
  pub stops : Stops result before now new.stop
  pub limit : IsAtLimit result new
  pub keeps : OnOk result (Kept old new)
  pub progress : Progress old new
  pub holds : Holding before.shelf now.shelf old new

-- and one that tells nobody
pub record Gets {A : Type 0} (reading : Reading A) (result : Result A Stop) (old new : Held) (before now : Outside) : Type 0 where
  pub reads : Reads before.shelf (reading (state_of before.shelf old)) result (state_of now.shelf new)
  pub spends : Spends (reading (state_of before.shelf old)) result before.shelf now.shelf old new
  pub stops : Stops result before now new.stop
  pub limit : IsAtLimit result new
  pub keeps : OnOk result (Kept old new)
  pub progress : Progress old new
  pub holds : Holding before.shelf now.shelf old new
