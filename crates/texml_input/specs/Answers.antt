-- What the answers of an input say of the rest that it stands for.
use Rattle.std.specs.Prelude.{◌≡◌, ◌≤◌, ℕ, ◌+◌, List, [], Option, Some, None, Result, Ok, Err}
use Rattle.texml_token.specs.Token.{Token}
use Rattle.texml_token.specs.Numbers.{Table, token_at, TokenWithin}
use Rattle.texml_base.specs.Outside.{Shelf}
use Rattle.texml_mouth.specs.Seen.{table_behind}
use Rattle.texml_input.specs.Rest.{Item, Place}
use Rattle.texml_input.specs.Next.{Taken, Given, Got, AtEnd, Invalid, NotUtf8, bytes_of}
use Rattle.texml_input.specs.Held.{Source, AreLittle, AreLittlePast, IsAtFence, front_size}
use Rattle.texml_input.specs.Keeping.{Spends}
use Rattle.texml_input.specs.declared.fault.Read.{Read}
use Rattle.texml_input.specs.declared.fault.InputFault.{InputFault}
use Rattle.texml_input.specs.declared.fault.InputFault.TheVariants as fault

-- what the code's answers stand for
abbrev pub read_at : Table → Read → Taken
read_at texts r = record { token = token_at texts r.token; frozen = r.frozen; crossed = r.crossed }

abbrev pub given_at : Table → Result (Option Read) InputFault → Result (Option Taken) InputFault
given_at texts (Ok (Some r)) = Ok (Some (read_at texts r))
given_at texts (Ok None) = Ok None
given_at texts (Err f) = Err f

-- the table of names behind an answer: the name of a token is added where it wasn't there, and no other
abbrev pub names_behind : Table → Result (Option Taken) InputFault → Table
names_behind texts (Ok (Some r)) = table_behind texts (Ok (Some r.token))
names_behind texts (Ok None) = texts
names_behind texts (Err f) = texts

-- so many names give the token of an answer
abbrev pub GivenWithin : ℕ → Result (Option Read) InputFault → Type 0
GivenWithin count (Ok (Some r)) = TokenWithin count r.token
GivenWithin count (Ok None) = Unit {0}
GivenWithin count (Err f) = Unit {0}

-- an answer is what the rest gives first; the items and the place are those behind it
abbrev pub IsNext : Given → Result (Option Taken) InputFault → List (Item Token) → Place → Type 0
IsNext g (Ok (Some r)) rest place = (bytes : ℕ) × (g ≡ Got r rest place bytes)
IsNext g (Ok None) rest place = (bytes : ℕ) × (g ≡ AtEnd place bytes) × (rest ≡ [])
IsNext g (Err (fault.Invalid c)) rest place = (bytes : ℕ) × (g ≡ Invalid c place bytes)
IsNext g (Err fault.NotUtf8) rest place = (bytes : ℕ) × (g ≡ NotUtf8 place bytes)
IsNext g (Err fault.Failed) rest place = Unit {0}
IsNext g (Err fault.NoMemory) rest place = Unit {0}

-- the fault that is kept behind an answer
abbrev pub fault_after : {A : Type 0} → Result A InputFault → Option InputFault
fault_after (Ok v) = None
fault_after (Err f) = Some f

-- each file has given few bytes past its line last loaded; where reading broke off, past the line that was being loaded
abbrev pub LittleAfter : {A : Type 0} → Result A InputFault → List Source → Type 0
LittleAfter (Ok v) sources = AreLittle sources
LittleAfter (Err (fault.Invalid c)) sources = AreLittle sources
LittleAfter (Err fault.NotUtf8) sources = AreLittle sources
LittleAfter (Err fault.Failed) sources = AreLittlePast sources
LittleAfter (Err fault.NoMemory) sources = AreLittlePast sources

-- the bytes of the line that was being loaded, where reading broke off
abbrev pub broken_size : {A : Type 0} → Result A InputFault → Shelf → List Source → ℕ
broken_size (Ok v) shelf sources = 0
broken_size (Err (fault.Invalid c)) shelf sources = 0
broken_size (Err fault.NotUtf8) shelf sources = 0
broken_size (Err fault.Failed) shelf sources = front_size shelf sources
broken_size (Err fault.NoMemory) shelf sources = front_size shelf sources

-- so many bytes were loaded. The rest loads them, and where reading broke off inside a line those of that line too
pub record Loads {A : Type 0} (old new : Shelf) (a b : List Source) (all : Given) (result : Result A InputFault) : Type 0 where
  pub loaded : ℕ
  pub within : loaded + broken_size result new b ≤ bytes_of all
  pub spends : Spends old new a b loaded

-- at the end nothing stands before the first fence
abbrev pub EndsAtFence : Result (Option Read) InputFault → List Source → Type 0
EndsAtFence (Ok (Some r)) sources = Unit {0}
EndsAtFence (Ok None) sources = IsAtFence sources
EndsAtFence (Err f) sources = Unit {0}
