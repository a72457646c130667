-- Only contracts of private functions need these: what a file gives from its line, and what loading its next line is.
use Rattle.std.specs.Prelude.{◌≡◌, ◌≤◌, ℕ, ◌+◌, true, List, [], ◌∷◌, length, Option, Some, None, Result, Ok, Err}
use Rattle.texml_base.specs.Rising.{add_up}
use Rattle.texml_token.specs.Numbers.{Table, token_at}
use Rattle.texml_token.specs.declared.tokens.Token.{Token as TokenCode}
use Rattle.texml_text.specs.Lines.{loaded}
use Rattle.texml_text.specs.File.{Row}
use Rattle.texml_text.specs.Reader.{first_size, block, past_line}
use Rattle.texml_mouth.specs.Mouth.{Gives, Dry, Bad, bites}
use Rattle.texml_mouth.specs.declared.MouthFault.{MouthFault}
use Rattle.texml_mouth.specs.declared.MouthFault.TheVariants as mouth
use Rattle.texml_text.specs.declared.reader.LineFault.{LineFault}
use Rattle.texml_text.specs.declared.reader.LineFault.TheVariants as line
use Rattle.texml_input.specs.Rest.{Page, start}
use Rattle.texml_input.specs.Held.{Opened}
use Rattle.texml_input.specs.declared.file.Found.{Found}
use Rattle.texml_input.specs.declared.file.Found.TheVariants.{Line, Nothing}

-- where a file is read further from
abbrev pub at_spot : Opened → Opened → Opened
at_spot f g = record { name = f.name; ended = f.ended; spot = g.spot; reader = f.reader }

-- where a file is read no further
abbrev pub spoiled : Opened → Opened
spoiled f = record { name = f.name; ended = true; spot = start []; reader = f.reader }

-- what a file gives from its line last loaded
abbrev pub GivesToken : (ℕ → ℕ) → Table → Opened → Result (Option TokenCode) MouthFault → Opened → Type 0
GivesToken cats texts f (Ok (Some t)) g = (bites cats f.spot ≡ Gives (token_at texts t) g.spot) × (g ≡ at_spot f g)
GivesToken cats texts f (Ok None) g = (bites cats f.spot ≡ Dry) × (g.spot.tail ≡ []) × (g ≡ at_spot f g)
GivesToken cats texts f (Err (mouth.Invalid c)) g = (bites cats f.spot ≡ Bad c) × (g ≡ spoiled f)
GivesToken cats texts f (Err mouth.NoMemory) g = g ≡ spoiled f

-- whether a line is loaded: what that is of the text before it and behind it
abbrev pub LoadsPage : Option ℕ → Page → Result Found LineFault → Page → Type 0
LoadsPage end p (Ok Line) q =
    (text : List ℕ) × (size : ℕ) × (p.rows ≡ record { text = Some text; size = size } ∷ q.rows) × (q.spot ≡ start (loaded end text)) × (q.number ≡ add_up p.number 1)
LoadsPage end p (Ok Nothing) q = p.rows ≡ []
LoadsPage end p (Err line.NotUtf8) q = (size : ℕ) × (p.rows ≡ record { text = None; size = size } ∷ q.rows) × (q.number ≡ add_up p.number 1)
LoadsPage end p (Err line.Failed) q = q.rows ≡ p.rows
LoadsPage end p (Err line.NoMemory) q = q.rows ≡ p.rows

-- the bytes that are loaded, where these lines were left
abbrev pub load_bytes : Result Found LineFault → List Row → ℕ
load_bytes (Ok Line) rows = first_size rows
load_bytes (Ok Nothing) rows = 0
load_bytes (Err line.NotUtf8) rows = first_size rows
load_bytes (Err line.Failed) rows = 0
load_bytes (Err line.NoMemory) rows = 0

-- few bytes are held past the line last loaded; where reading broke off, past the line that was to be loaded
abbrev pub LoadsLittle : Result Found LineFault → List ℕ → Type 0
LoadsLittle (Ok found) held = length held ≤ block
LoadsLittle (Err line.NotUtf8) held = length held ≤ block
LoadsLittle (Err line.Failed) held = past_line held ≤ block
LoadsLittle (Err line.NoMemory) held = past_line held ≤ block

-- a line that is loaded leaves less to be read
abbrev pub LoadFalls : Found → ℕ → ℕ → Type 0
LoadFalls Line old new = new + 1 ≤ old
LoadFalls Nothing old new = Unit {0}
