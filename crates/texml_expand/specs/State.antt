-- A state of the engine, and what a reading answers from one.
use Rattle.std.specs.Prelude.{ℕ, zero, suc, ◌+◌, Bool, List, [], ◌∷◌, ◌++◌, length, sum_by, Option}
use Rattle.std.specs.Option.{option_to_list}
use Rattle.texml_token.specs.Token.{Token}
use Rattle.texml_token.specs.declared.fault.Fault.{Fault}
use Rattle.texml_scope.specs.Texts.{World}
use Rattle.texml_cond.specs.declared.limits.Bound.{Bound}
use Rattle.texml_watch.specs.declared.record.Record.{Record}
use Rattle.texml_input.specs.Rest.{Item, Place, size}

-- what names mean, what is still to be read, and what is set aside, the innermost first; the token that comes after the next assignment; the
-- expansions begun, their limit, and how many are open; whether a group is absorbed with expanding, inside which no file may end; where the line
-- stands that was loaded last; the limits of the open conditionals, the innermost last; the name of the main file as it was given; and what the file of each name has, if there is one
pub record State : Type 0 where
  pub world : World
  pub rest : List (Item Token)
  pub aside : List (List (Item Token))
  pub kept : Option Token
  pub begun : ℕ
  pub limit : ℕ
  pub nesting : ℕ
  pub absorbing : Bool
  pub place : Place
  pub conditionals : List Bound
  pub job : List ℕ
  pub contents : List ℕ → Option (List ℕ)

-- how much may still be read where no expansion begins: the rest and those that are set aside, and the tokens that are kept for after groups and
-- for after an assignment
abbrev pub room : State → ℕ
room s = size s.rest + sum_by size s.aside + sum_by (λ g. length g.after) s.world.groups + length (option_to_list s.kept)

-- what ends a run early: a fault of the text, or the limit
pub data End : Type 0 where
  Tex : Fault → End
  Limit : ℕ → End

-- the fault of this number, at the line that was loaded last
abbrev pub fault_at : ℕ → List ℕ → Place → Fault
fault_at code about place = record { code = code; file = place.file; line = place.line; about = about }

-- what a reading adds: the records of the expansions that were completed in it; how many bytes were loaded, for each token for which lines were; and the
-- names of the files that were opened
pub record Gains : Type 0 where
  pub records : List Record
  pub loaded : List ℕ
  pub opened : List (List ℕ)

-- how many bytes were loaded
abbrev pub bytes_in : Gains → ℕ
bytes_in gains = sum_by (λ n. n) gains.loaded

abbrev pub nothing : Gains
nothing = record { records = []; loaded = []; opened = [] }

-- so many bytes, if there are any
abbrev pub some_bytes : ℕ → List ℕ
some_bytes zero = []
some_bytes (suc n) = suc n ∷ []

-- the bytes alone
abbrev pub loads : List ℕ → Gains
loads sizes = record { records = []; loaded = sizes; opened = [] }

-- a file alone, of which nothing is loaded yet
abbrev pub opens : List ℕ → Gains
opens name = record { records = []; loaded = []; opened = name ∷ [] }

-- these and then those
infixr 5 ◌⊕◌
abbrev pub ◌⊕◌ : Gains → Gains → Gains
◌⊕◌ a b = record { records = a.records ++ b.records; loaded = a.loaded ++ b.loaded; opened = a.opened ++ b.opened }

-- a value, the state behind it and what was added; or an end, with what was added before it;
-- or no end yet, where a definition may look no deeper, with what was added until there
pub data Answer (A : Type 0) : Type 0 where
  Done : A → State → Gains → Answer A
  Ended : End → Gains → Answer A
  Unfinished : Gains → Answer A

-- what is read from a state
abbrev pub Reading : Type 0 → Type 0
Reading A = State → Answer A

-- an answer with gains before its own
abbrev pub after : {A : Type 0} → Gains → Answer A → Answer A
after gains (Done a s more) = Done a s (gains ⊕ more)
after gains (Ended e more) = Ended e (gains ⊕ more)
after gains (Unfinished more) = Unfinished (gains ⊕ more)

-- what follows a value goes on from the state behind it; an end stays
abbrev pub chain : {A B : Type 0} → Answer A → (A → Reading B) → Answer B
chain (Done a s gains) next = after gains (next a s)
chain (Ended e gains) next = Ended e gains
chain (Unfinished gains) next = Unfinished gains

-- one reading after the other, as 'do' writes it
infixl 10 ◌>>=◌
abbrev pub ◌>>=◌ : {A B : Type 0} → Reading A → (A → Reading B) → Reading B
◌>>=◌ first next s = chain (first s) next

abbrev pub ◌>>◌ : {A B : Type 0} → Reading A → Reading B → Reading B
◌>>◌ first next s = chain (first s) (λ _. next)

-- a value, and nothing is read
abbrev pub give : {A : Type 0} → A → Reading A
give a s = Done a s nothing

-- a fault, at the line that was loaded last
abbrev pub fail : {A : Type 0} → ℕ → List ℕ → Reading A
fail code about s = Ended (Tex (fault_at code about s.place)) nothing

abbrev pub change : (State → State) → Reading (Unit {0})
change f s = Done tt (f s) nothing

abbrev pub tell : Record → Reading (Unit {0})
tell row s = Done tt s (record { records = row ∷ []; loaded = []; opened = [] })

-- what was added
abbrev pub added : {A : Type 0} → Answer A → Gains
added (Done a s gains) = gains
added (Ended e gains) = gains
added (Unfinished gains) = gains

abbrev pub IsDecided : {A : Type 0} → Answer A → Type 0
IsDecided (Done a s gains) = Unit {0}
IsDecided (Ended e gains) = Unit {0}
IsDecided (Unfinished gains) = ⊥
