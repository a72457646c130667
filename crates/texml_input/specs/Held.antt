-- What an input holds, and the rest that it stands for together with its files.
use Rattle.std.specs.Prelude.{◌≡◌, ◌≤◌, ℕ, ◌+◌, Bool, true, false, if◌then◌else◌, IsTrue, List, [], ◌∷◌, length, Option, None}
use Rattle.std.specs.List.{All}
use Rattle.texml_base.specs.Outside.{Shelf, in_use}
use Rattle.texml_token.specs.Token.{Token}
use Rattle.texml_token.specs.Numbers.{Table, TokenWithin}
use Rattle.texml_token.specs.declared.tokens.Token.{Token as TokenCode}
use Rattle.texml_text.specs.File.{Row}
use Rattle.texml_text.specs.Reader.{Reader, rows_left, room, fresh_reader, block, past_line, first_size}
use Rattle.texml_mouth.specs.Mouth.{Spot}
use Rattle.texml_input.specs.Rest.{Page, Item, Tok, Frozen, Text, Place, page, start, items_at}
use Rattle.texml_input.specs.declared.fault.InputFault.{InputFault}

-- an open file: its name, whether no line of it is loaded any more, where in its loaded line it is, and the reader of its lines
pub record Opened : Type 0 where
  pub name : List ℕ
  pub ended : Bool
  pub spot : Spot
  pub reader : Reader

-- a token, a token that is kept from being expanded, a file, or a fence, behind which all is set aside
pub data Source : Type 0 where
  Plain : TokenCode → Source
  Marked : TokenCode → Source
  File : Opened → Source
  Fence : Source

-- the sources, the front first, the place of the line last loaded, and the fault that is answered from now on
pub record Held : Type 0 where
  pub sources : List Source
  pub place : Place
  pub fault : Option InputFault

-- a file of which nothing was read
abbrev pub fresh_file : ℕ → List ℕ → Opened
fresh_file id name = record { name = name; ended = false; spot = start []; reader = fresh_reader id }

-- a token put back
abbrev pub back_source : TokenCode → Bool → Source
back_source t true = Marked t
back_source t false = Plain t

-- the lines that a file has left
abbrev pub rows_of : Shelf → Opened → List Row
rows_of shelf f = if f.ended then [] else rows_left shelf f.reader

-- the text that a file stands for
abbrev pub page_of : Shelf → Opened → Page
page_of shelf f = page f.name f.reader.number f.spot (rows_of shelf f)

-- the rest that sources stand for: up to the first fence
abbrev pub rest_of : Shelf → List Source → List (Item TokenCode)
rest_of shelf [] = []
rest_of shelf (Plain t ∷ sources) = Tok t ∷ rest_of shelf sources
rest_of shelf (Marked t ∷ sources) = Frozen t ∷ rest_of shelf sources
rest_of shelf (File f ∷ sources) = Text (page_of shelf f) ∷ rest_of shelf sources
rest_of shelf (Fence ∷ sources) = []

-- the rests that are set aside: behind each fence, the innermost first
abbrev pub aside_of : Shelf → List Source → List (List (Item TokenCode))
aside_of shelf [] = []
aside_of shelf (Plain t ∷ sources) = aside_of shelf sources
aside_of shelf (Marked t ∷ sources) = aside_of shelf sources
aside_of shelf (File f ∷ sources) = aside_of shelf sources
aside_of shelf (Fence ∷ sources) = rest_of shelf sources ∷ aside_of shelf sources

-- the same with names by their texts
abbrev pub rest_at : Table → Shelf → List Source → List (Item Token)
rest_at texts shelf sources = items_at texts (rest_of shelf sources)

-- the ids of the files, those set aside among them
abbrev pub ids_of : List Source → List ℕ
ids_of [] = []
ids_of (Plain t ∷ sources) = ids_of sources
ids_of (Marked t ∷ sources) = ids_of sources
ids_of (File f ∷ sources) = f.reader.id ∷ ids_of sources
ids_of (Fence ∷ sources) = ids_of sources

-- how many fences stand
abbrev pub fences_of : List Source → ℕ
fences_of [] = 0
fences_of (Plain t ∷ sources) = fences_of sources
fences_of (Marked t ∷ sources) = fences_of sources
fences_of (File f ∷ sources) = fences_of sources
fences_of (Fence ∷ sources) = 1 + fences_of sources

-- each of these ids is in use, and none stands twice
abbrev pub AreHeld : List ℕ → List ℕ → Type 0
AreHeld ids [] = Unit {0}
AreHeld ids (x ∷ xs) = IsTrue (in_use ids x) × (in_use xs x ≡ false) × AreHeld ids xs

-- so many names give the tokens
abbrev pub SourceWithin : ℕ → Source → Type 0
SourceWithin count (Plain t) = TokenWithin count t
SourceWithin count (Marked t) = TokenWithin count t
SourceWithin count (File f) = Unit {0}
SourceWithin count Fence = Unit {0}

abbrev pub SourcesWithin : ℕ → List Source → Type 0
SourcesWithin count = All (SourceWithin count)

-- how much may still be taken
abbrev pub file_room : Shelf → Opened → ℕ
file_room shelf f = 1 + length f.spot.tail + (if f.ended then 0 else room shelf f.reader)

abbrev pub room_of : Shelf → List Source → ℕ
room_of shelf [] = 0
room_of shelf (Plain t ∷ sources) = 1 + room_of shelf sources
room_of shelf (Marked t ∷ sources) = 1 + room_of shelf sources
room_of shelf (File f ∷ sources) = file_room shelf f + room_of shelf sources
room_of shelf (Fence ∷ sources) = room_of shelf sources

-- the bytes that files have given past their lines last loaded
abbrev pub ahead_of : List Source → ℕ
ahead_of [] = 0
ahead_of (Plain t ∷ sources) = ahead_of sources
ahead_of (Marked t ∷ sources) = ahead_of sources
ahead_of (File f ∷ sources) = length f.reader.held + ahead_of sources
ahead_of (Fence ∷ sources) = ahead_of sources

-- each file has given few bytes past its line last loaded
abbrev pub AreLittle : List Source → Type 0
AreLittle [] = Unit {0}
AreLittle (Plain t ∷ sources) = AreLittle sources
AreLittle (Marked t ∷ sources) = AreLittle sources
AreLittle (File f ∷ sources) = (length f.reader.held ≤ block) × AreLittle sources
AreLittle (Fence ∷ sources) = AreLittle sources

-- the bytes that are ahead of a file of which a line was being loaded, counted from the end of that line; of a file that loads no line any more none was
abbrev pub ahead_past : Opened → ℕ
ahead_past f = if f.ended then length f.reader.held else past_line f.reader.held

-- the same, where the first source is a file of which a line was being loaded
abbrev pub AreLittlePast : List Source → Type 0
AreLittlePast (File f ∷ sources) = (ahead_past f ≤ block) × AreLittle sources
AreLittlePast sources = AreLittle sources

-- the bytes of the line that was being loaded of the first source
abbrev pub front_size : Shelf → List Source → ℕ
front_size shelf (File f ∷ sources) = first_size (rows_of shelf f)
front_size shelf sources = 0

-- nothing stands before the first fence
abbrev pub IsAtFence : List Source → Type 0
IsAtFence [] = Unit {0}
IsAtFence (Plain t ∷ sources) = ⊥
IsAtFence (Marked t ∷ sources) = ⊥
IsAtFence (File f ∷ sources) = ⊥
IsAtFence (Fence ∷ sources) = Unit {0}

-- what stands behind the fence in front, if there is one
abbrev pub unfenced : List Source → List Source
unfenced (Fence ∷ sources) = sources
unfenced sources = sources

-- the readers of files have no fault
abbrev pub AreSound : List Source → Type 0
AreSound [] = Unit {0}
AreSound (Plain t ∷ sources) = AreSound sources
AreSound (Marked t ∷ sources) = AreSound sources
AreSound (File f ∷ sources) = (f.reader.fault ≡ None) × AreSound sources
AreSound (Fence ∷ sources) = AreSound sources

-- the first file loads no line any more
abbrev pub end_first : List Source → List Source
end_first [] = []
end_first (Plain t ∷ sources) = Plain t ∷ end_first sources
end_first (Marked t ∷ sources) = Marked t ∷ end_first sources
end_first (File f ∷ sources) = File (record f { ended = true }) ∷ sources
end_first (Fence ∷ sources) = Fence ∷ end_first sources
