-- How a run starts on its file.
use Rattle.std.specs.Prelude.{◌≡◌, ℕ, false, List, [], length, Option, None, Result, Ok, Err, IsTrue}
use Rattle.texml_base.specs.Outside.{Shelf}
use Rattle.texml_token.specs.Numbers.{Numbered}
use Rattle.texml_scope.specs.Builtins.{first_world}
use Rattle.texml_input.specs.Rest.{Page, Place, no_place}
use Rattle.texml_input.specs.Held.{ids_of, ahead_of, AreLittle}
use Rattle.texml_expand.specs.State.{fault_at}
use Rattle.texml_expand.specs.Held.{Held, Sound, state_of, world_in}
use Rattle.texml_top.specs.Outcome.{main_text, first_state}
use Rattle.texml_top.specs.Run.{FilesBlamed}
use Rattle.texml_top.specs.declared.status.Status.{Status}
use Rattle.texml_top.specs.declared.status.Status.TheVariants.{Tex, ReadFault, NoMemory}

-- this fault at the place, or want of memory
abbrev pub IsStatusAt : ℕ → List ℕ → Place → Status → Type 0
IsStatusAt code about place (Tex f) = f ≡ fault_at code about place
IsStatusAt code about place NoMemory = Unit {0}
IsStatusAt code about place _ = ⊥

-- an engine that has nothing to read
pub record IsEmpty (name : List ℕ) (most : ℕ) (engine : Held) : Type 0 where
  pub world : world_in engine ≡ first_world
  pub input : engine.input ≡ record { sources = []; place = no_place; fault = None }
  pub kept : engine.kept ≡ None
  pub conditionals : engine.conditionals ≡ []
  pub main : engine.main ≡ name
  pub begun : engine.begun ≡ 0
  pub limit : engine.limit ≡ most
  pub nesting : engine.nesting ≡ 0
  pub absorbing : engine.absorbing ≡ false
  pub stop : engine.stop ≡ None
  pub sound : Sound engine

-- an engine in the first state of the text that was found
abbrev pub IsFirst : (List ℕ → Option (List ℕ)) → List ℕ → ℕ → Result Page Status → Shelf → Held → Type 0
IsFirst contents name limit found shelf engine = (text : Page) × (found ≡ Ok text) × (state_of shelf engine ≡ first_state contents name limit text)

-- By what a shelf holds, where it tells that: an engine in the first state of the main file, or why there is none. Or the files failed, or
-- memory was refused
abbrev pub Starts : Shelf → Shelf → List ℕ → ℕ → Result Held Status → Type 0
Starts old new name limit (Ok engine) = IsTrue old.tells → IsFirst old.contents name limit (main_text old.contents name) new engine
Starts old new name limit (Err (Tex f)) = IsTrue old.tells → main_text old.contents name ≡ Err (Tex f)
Starts old new name limit (Err ReadFault) = Unit {0}
Starts old new name limit (Err NoMemory) = Unit {0}
Starts old new name limit (Err _) = ⊥

-- the files' count of faults rose where they failed, and is as before where they didn't
abbrev pub StartBlames : Result Held Status → ℕ → ℕ → Type 0
StartBlames (Ok engine) old new = new ≡ old
StartBlames (Err s) old new = FilesBlamed s old new

-- an engine that holds one file open, of which nothing was read
pub record IsBefore (engine : Held) : Type 0 where
  pub little : AreLittle engine.input.sources
  pub ahead : ahead_of engine.input.sources ≡ 0
  pub one : length (ids_of engine.input.sources) ≡ 1

-- what is told is as before
pub record SameOutside (old new : Shelf) : Type 0 where
  pub tells : new.tells ≡ old.tells
  pub contents : new.contents ≡ old.contents
