-- What a run answers and writes.
use Rattle.std.specs.Prelude.{◌≡◌, ℕ, false, List, [], ◌∷◌, Result, Ok, Err, None}
use Rattle.std.specs.declared.option.Option.{Option}
use Rattle.std.specs.Option.{option_map, ok_or}
use Rattle.texml_token.specs.declared.fault_code.TheConstants.{MISSING_FILE}
use Rattle.texml_scope.specs.Builtins.{first_world}
use Rattle.texml_watch.specs.declared.record.Record.{Record}
use Rattle.texml_watch.specs.Trace.{trace}
use Rattle.texml_input.specs.Rest.{Page, Place, Text}
use Rattle.texml_input.specs.Next.{place_at}
use Rattle.texml_input.specs.Searching.{names_tried, first_there}
use Rattle.texml_expand.specs.State.{State, End, Tex, Limit, Answer, Done, Ended, Unfinished, fault_at}
use Rattle.texml_expand.specs.Contract.{DecidesOn}
use Rattle.texml_expand.specs.Include.{whole_text}
use Rattle.texml_top.specs.Request.{Request, asked}
use Rattle.texml_top.specs.declared.request.Command.{Command}
use Rattle.texml_top.specs.declared.request.Command.TheVariants.{Convert, Expand}
use Rattle.texml_top.specs.Digest.{digests}
use Rattle.texml_top.specs.Document.{document}
use Rattle.texml_tree.specs.declared.ops.Op.{Op}
use Rattle.texml_tree.specs.declared.model_fault.ModelFault.{ModelFault}
use Rattle.texml_top.specs.declared.status.Status.{Status}
use Rattle.texml_top.specs.declared.status.Status.TheVariants as status

-- what a run answers, the bytes that it writes, and the records of its completed expansions
pub record Outcome : Type 0 where
  pub status : Status
  pub bytes : List ℕ
  pub records : List Record

-- a status alone: nothing is written, and nothing was expanded
abbrev pub refused : Status → Outcome
refused s = record { status = s; bytes = []; records = [] }

-- the place before the first line of a file
abbrev pub before : List ℕ → Place
before file = place_at file 0

-- the main file's, which is the first that there is of the names that are tried; where there is none it is a fault about the name that was given
abbrev pub main_text : (List ℕ → Option (List ℕ)) → List ℕ → Result Page Status
main_text contents file = ok_or (option_map (whole_text contents) (first_there contents (names_tried file))) (status.Tex (fault_at MISSING_FILE file (before file)))

-- the state that a run starts with: the builtins have their names, and the main file is still to be read
abbrev pub first_state : (List ℕ → Option (List ℕ)) → List ℕ → ℕ → Page → State
first_state contents file limit text = record {
  world = first_world;
  rest = Text text ∷ [];
  aside = [];
  kept = None;
  begun = 0;
  limit = limit;
  nesting = 0;
  absorbing = false;
  place = before file;
  conditionals = [];
  job = file;
  contents = contents;
}

abbrev pub status_of : End → Status
status_of (Tex f) = status.Tex f
status_of (Limit n) = status.Limit n

-- operations that make a document end with its page; the others end with what is wrong with them first
abbrev pub page_outcome : Result (List ℕ) ModelFault → List Record → Outcome
page_outcome (Ok page) records = record { status = status.Done; bytes = page; records = records }
page_outcome (Err f) records = record { status = status.Model f; bytes = []; records = records }

-- by what digestion answers: convert writes the page of it, and nothing at an early end; expand writes the trace in any case
abbrev pub IsOutcomeBy : Command → Answer (List Op) → Outcome → Type 0
IsOutcomeBy Convert (Done ops s gains) all = all ≡ page_outcome (document ops) gains.records
IsOutcomeBy Convert (Ended e gains) all = all ≡ record { status = status_of e; bytes = []; records = gains.records }
IsOutcomeBy Convert (Unfinished gains) all = ⊥
IsOutcomeBy Expand (Done ops s gains) all = all ≡ record { status = status.Done; bytes = trace gains.records; records = gains.records }
IsOutcomeBy Expand (Ended e gains) all = all ≡ record { status = status_of e; bytes = trace gains.records; records = gains.records }
IsOutcomeBy Expand (Unfinished gains) all = ⊥

-- the outcome of a command from a state on
pub record IsOutcomeFrom (command : Command) (s : State) (all : Outcome) : Type 0 where
  pub answer : Answer (List Op)
  pub given : DecidesOn (digests s) answer
  pub is : IsOutcomeBy command answer all

abbrev pub IsOutcomeOf : Request → (List ℕ → Option (List ℕ)) → Result Page Status → Outcome → Type 0
IsOutcomeOf request contents (Ok text) all = IsOutcomeFrom request.command (first_state contents request.file request.limit text) all
IsOutcomeOf request contents (Err s) all = all ≡ refused s

abbrev pub IsOutcomeAsked : Result Request ℕ → (List ℕ → Option (List ℕ)) → Outcome → Type 0
IsOutcomeAsked (Ok request) contents all = IsOutcomeOf request contents (main_text contents request.file) all
IsOutcomeAsked (Err which) contents all = all ≡ refused (status.Usage which)

-- the outcome of a run, by its words and what each name holds
abbrev pub IsOutcome : List (List ℕ) → (List ℕ → Option (List ℕ)) → Outcome → Type 0
IsOutcome words contents all = IsOutcomeAsked (asked words) contents all

-- there is an outcome, and no other
pub record OneOutcome (words : List (List ℕ)) (contents : List ℕ → Option (List ℕ)) : Type 0 where
  pub all : Outcome
  pub is : IsOutcome words contents all
  pub one : (other : Outcome) → IsOutcome words contents other → other ≡ all

-- the outcome has this property
pub record WithOutcome (Is Has : Outcome → Type 0) : Type 0 where
  pub all : Outcome
  pub is : Is all
  pub has : Has all

-- the outcome of these words and files has this property
abbrev pub OfOutcome : List (List ℕ) → (List ℕ → Option (List ℕ)) → (Outcome → Type 0) → Type 0
OfOutcome words contents Has = WithOutcome (IsOutcome words contents) Has

-- the outcome of a command from a state on has this property
abbrev pub FromState : Command → State → (Outcome → Type 0) → Type 0
FromState command s Has = WithOutcome (IsOutcomeFrom command s) Has
