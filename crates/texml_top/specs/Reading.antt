-- How many bytes a run reads of its files.
use Rattle.std.specs.Prelude.{◌≡◌, ◌≤◌, ◌+◌, ◌*◌, ℕ, List, length, Option, Result, Ok, Err}
use Rattle.texml_base.specs.Rising.{add_up}
use Rattle.texml_base.specs.Outside.{Shelf}
use Rattle.texml_text.specs.Reader.{block}
use Rattle.texml_input.specs.Rest.{Page}
use Rattle.texml_input.specs.Held.{Source, ids_of, ahead_of}
use Rattle.texml_expand.specs.State.{State, Answer, bytes_in, added}
use Rattle.texml_expand.specs.Contract.{DecidesOn}
use Rattle.texml_tree.specs.declared.ops.Op.{Op}
use Rattle.texml_top.specs.Request.{Request}
use Rattle.texml_top.specs.Digest.{digests}
use Rattle.texml_top.specs.Outcome.{main_text, first_state}
use Rattle.texml_top.specs.declared.status.Status.{Status}

-- from a state on, with what these sources hold: files gave no more bytes than digestion loads up to its answer, and one block for each file that is open
-- at first or that it opens
pub record ReadsFrom (s : State) (sources : List Source) (old new : Shelf) : Type 0 where
  pub answer : Answer (List Op)
  pub decides : DecidesOn (digests s) answer
  pub given : ℕ
  pub total : new.total ≡ add_up old.total given
  pub few : given + ahead_of sources ≤ bytes_in (added answer) + block * (length (ids_of sources) + length (added answer).opened)

-- of a run that reads this state: the main file is one file more
pub record ReadsFirst (s : State) (old new : Shelf) : Type 0 where
  pub answer : Answer (List Op)
  pub decides : DecidesOn (digests s) answer
  pub given : ℕ
  pub total : new.total ≡ add_up old.total given
  pub few : given ≤ bytes_in (added answer) + block * (1 + length (added answer).opened)

-- nothing is read where there is no main file
abbrev pub ReadsText : Request → (List ℕ → Option (List ℕ)) → Result Page Status → Shelf → Shelf → Type 0
ReadsText request contents (Ok text) old new = ReadsFirst (first_state contents request.file request.limit text) old new
ReadsText request contents (Err s) old new = new.total ≡ old.total

-- and where the words are no command line
abbrev pub ReadsAsked : Result Request ℕ → (List ℕ → Option (List ℕ)) → Shelf → Shelf → Type 0
ReadsAsked (Ok request) contents old new = ReadsText request contents (main_text contents request.file) old new
ReadsAsked (Err which) contents old new = new.total ≡ old.total
