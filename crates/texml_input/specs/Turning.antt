-- Only contracts of private functions need these: one turn at the front of a rest.
use Rattle.std.specs.Prelude.{◌≡◌, ◌≤◌, ℕ, ◌+◌, true, false, List, [], ◌∷◌, ◌++◌, map, length, Option, Some, None, Result, Ok, Err}
use Rattle.texml_token.specs.Token.{Token}
use Rattle.texml_token.specs.Numbers.{Table, token_at, TokenWithin}
use Rattle.texml_input.specs.Rest.{Item, Place}
use Rattle.texml_input.specs.Next.{Got, AtEnd, Invalid, NotUtf8, behind, bytes_of, taken, next}
use Rattle.texml_token.specs.declared.tokens.Token.{Token as TokenCode}
use Rattle.texml_mouth.specs.Mouth.{Spot, Gives, bites}
use Rattle.texml_mouth.specs.Seen.{table_behind}
use Rattle.texml_input.specs.Held.{Opened, Source, Plain, File, IsAtFence}
use Rattle.texml_input.specs.declared.fault.InputFault.{InputFault}
use Rattle.texml_input.specs.declared.fault.InputFault.TheVariants as fault
use Rattle.texml_input.specs.declared.turning.Turn.{Turn}
use Rattle.texml_input.specs.declared.turning.Turn.TheVariants as turn

-- the bytes that a turn loads, where the first line of the front has so many
abbrev pub turn_bytes : Result Turn InputFault → ℕ → ℕ
turn_bytes (Ok (turn.Token t frozen)) front = 0
turn_bytes (Ok turn.Again) front = 0
turn_bytes (Ok turn.Loaded) front = front
turn_bytes (Ok turn.Ended) front = 0
turn_bytes (Ok turn.End) front = 0
turn_bytes (Err (fault.Invalid c)) front = 0
turn_bytes (Err fault.NotUtf8) front = front
turn_bytes (Err fault.Failed) front = 0
turn_bytes (Err fault.NoMemory) front = 0

module _ (cats : ℕ → ℕ) (end : Option ℕ) (texts : Table) where
  -- one turn at the front of a rest: the first line of the front has so many bytes before it, and so many behind it
  abbrev pub Turns : ℕ → ℕ → List (Item Token) → Place → Result Turn InputFault → List (Item Token) → Place → Type 0
  Turns front after a p (Ok (turn.Token t frozen)) b q = next cats end a p ≡ Got (taken (token_at texts t) frozen) b q 0
  Turns front after a p (Ok turn.Again) b q = next cats end a p ≡ next cats end b q
  Turns front after a p (Ok turn.Loaded) b q = next cats end a p ≡ behind front false (next cats end b q)
  Turns front after a p (Ok turn.Ended) b q = next cats end a p ≡ behind 0 true (next cats end b q)
  Turns front after a p (Ok turn.End) b q = (next cats end a p ≡ AtEnd q 0) × (b ≡ [])
  Turns front after a p (Err (fault.Invalid c)) b q = next cats end a p ≡ Invalid c q 0
  Turns front after a p (Err fault.NotUtf8) b q = next cats end a p ≡ NotUtf8 q front
  Turns front after a p (Err fault.Failed) b q = after ≤ bytes_of (next cats end a p)
  Turns front after a p (Err fault.NoMemory) b q = after ≤ bytes_of (next cats end a p)

-- each turn but that at the end leaves less to be read, or fewer frames
abbrev pub TurnFalls : Turn → ℕ → ℕ → ℕ → ℕ → Type 0
TurnFalls (turn.Token t frozen) old frames new left = new + 1 ≤ old
TurnFalls turn.Again old frames new left = (new ≤ old) × (left + 1 ≤ frames)
TurnFalls turn.Loaded old frames new left = (new + 1 ≤ old) × (left ≤ frames)
TurnFalls turn.Ended old frames new left = (new + 1 ≤ old) × (left ≤ frames)
TurnFalls turn.End old frames new left = new ≤ old

-- the table of names behind a turn, which gives a token by the new one
abbrev pub turn_names : Table → Table → Result Turn InputFault → Table
turn_names texts new (Ok (turn.Token t frozen)) = table_behind texts (Ok (Some (token_at new t)))
turn_names texts new (Ok turn.Again) = texts
turn_names texts new (Ok turn.Loaded) = texts
turn_names texts new (Ok turn.Ended) = texts
turn_names texts new (Ok turn.End) = texts
turn_names texts new (Err f) = texts

-- so many names give the token
abbrev pub TurnWithin : ℕ → Turn → Type 0
TurnWithin count (turn.Token t frozen) = TokenWithin count t
TurnWithin count turn.Again = Unit {0}
TurnWithin count turn.Loaded = Unit {0}
TurnWithin count turn.Ended = Unit {0}
TurnWithin count turn.End = Unit {0}

-- at the end nothing stands before the first fence
abbrev pub TurnEnds : Result Turn InputFault → List Source → Type 0
TurnEnds (Ok (turn.Token t frozen)) sources = Unit {0}
TurnEnds (Ok turn.Again) sources = Unit {0}
TurnEnds (Ok turn.Loaded) sources = Unit {0}
TurnEnds (Ok turn.Ended) sources = Unit {0}
TurnEnds (Ok turn.End) sources = IsAtFence sources
TurnEnds (Err f) sources = Unit {0}

-- the first token of a list is taken, or the list has ended; these sources stand behind it
abbrev pub TakesList : List TokenCode → List Source → Turn → List Source → Type 0
TakesList tokens more (turn.Token t frozen) after = (rest : List TokenCode) × (tokens ≡ t ∷ rest) × (frozen ≡ false) × (after ≡ map Plain rest ++ more)
TakesList tokens more turn.Again after = (tokens ≡ []) × (after ≡ more)
TakesList tokens more turn.Loaded after = ⊥
TakesList tokens more turn.Ended after = ⊥
TakesList tokens more turn.End after = ⊥

-- a token is taken from the line of the file in front, which names have no part in
pub record TakesToken (cats : ℕ → ℕ) (old : List Source) (t : TokenCode) (new : List Source) : Type 0 where
  pub file : Opened
  pub spot : Spot
  pub more : List Source
  pub was : old ≡ File file ∷ more
  pub is : new ≡ File (record file { spot = spot }) ∷ more
  pub gives : (texts : Table) → bites cats file.spot ≡ Gives (token_at texts t) spot
  pub lower : length spot.tail + 1 ≤ length file.spot.tail
  pub given : TokenWithin 0 t

-- such a token is taken, or nothing changes
abbrev pub TakesPlain : (ℕ → ℕ) → List Source → Option TokenCode → List Source → Type 0
TakesPlain cats old (Some t) new = TakesToken cats old t new
TakesPlain cats old None new = new ≡ old
