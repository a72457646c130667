-- What a call that reads from an engine does, as the private contracts of this crate say it.
use Rattle.std.specs.Prelude.{Result}
use Rattle.std.specs.Result.{OnOk}
use Rattle.texml_watch.specs.declared.record.Record.{Record}
use Rattle.texml_expand.specs.declared.stop.Stop.{Stop}
use Rattle.texml_expand.specs.Contract.{Outside, Stops}
use Rattle.texml_expand.specs.Hearing.{FollowsTold}
use Rattle.texml_expand.specs.Spending.{SpendsBy}
use Rattle.texml_expand.specs.Held.{Held, state_of, Kept, IsAtLimit, Holding, Shrinks, Progress}
use Rattle.texml_assign.specs.Loop.{ByDepth}

-- it follows a reading, its stop is kept and has a cause, the engine stays sound, its files are all that are open, and no more is left to read
pub record Does {T : Type 0} (hear part : T → Record → T → Type 0) {A : Type 0} (reading : ByDepth A) (result : Result A Stop) (old new : Held) (before now : Outside) (a b : T) : Type 0 where
  pub follows : FollowsTold hear part before.shelf (λ n. reading n (state_of before.shelf old)) result (state_of now.shelf new) a b
  pub spends : SpendsBy (λ n. reading n (state_of before.shelf old)) result before.shelf now.shelf old new
  pub stops : Stops result before now new.stop
  pub limit : IsAtLimit result new
  pub keeps : OnOk result (Kept old new)
  pub advances : Progress old new
  pub holds : Holding before.shelf now.shelf old new
  pub shrinks : OnOk result (Shrinks 0 before.shelf old now.shelf new)
