-- Words of a command line as bytes, and as texts.
use Rattle.std.specs.Prelude.{◌≡◌, ℕ, ◌<◌, ◌≤◌, List, [], ◌∷◌, ◌==◌, nat_le, ◌&&◌, length, take, get_or, map, Bool, true, false, if◌then◌else◌, Result, Ok, Err, string_bytes}
use Rattle.std.specs.List.{list_all}
use Rattle.std.specs.Str.{is_utf8}
use Rattle.std.specs.declared.option.Option.{Option}
use Rattle.std.specs.Prelude.{None, Some}
use Rattle.std.specs.declared.string.String.{String}
use Rattle.std.specs.declared.vec.Vec.{Vec}
use Rattle.std.specs.declared.alloc.Global.{Global}
use Rattle.std.specs.declared.env.FillError.{FillError}
use Rattle.std.specs.declared.env.FillError.TheVariants.{NotPresent, TooLong}
use Rattle.texml.specs.declared.words.WordsFault.{WordsFault}
use Rattle.texml.specs.declared.words.WordsFault.TheVariants.{NotText, NoMemory}

-- what a command line of these words answers where the word at a place is asked for, with what then begins with it
abbrev pub GivesWord : List (List ℕ) → ℕ → Result ℕ FillError → List ℕ → Type 0
GivesWord words at (Ok count) into = (at < length words) × (take count into ≡ get_or words at [])
GivesWord words at (Err TooLong) into = (at < length words) × (length into < length (get_or words at []))
GivesWord words at (Err NotPresent) into = length words ≤ at

-- how long a word may be
abbrev pub longest : ℕ
longest = 131072

-- whether a word can be read: it is a text, and not too long
abbrev pub is_readable : List ℕ → Bool
is_readable word = is_utf8 word && nat_le (length word) longest

-- how words are wrong where the one at this place can't be read
abbrev pub broken_at : ℕ → ℕ
broken_at at = if at == 0 then 1 else 2

-- a word was read as a text; or it is none
abbrev pub IsTextOf : List ℕ → ℕ → Result (String Global) WordsFault → Type 0
IsTextOf word at (Ok text) = (is_utf8 word ≡ true) × (string_bytes text ≡ word)
IsTextOf word at (Err (NotText k)) = (is_utf8 word ≡ false) × (k ≡ broken_at at)
IsTextOf word at (Err NoMemory) = Unit {0}

-- the word at a place was read as a text, or can't be read; or there is none
abbrev pub IsTextAt : List (List ℕ) → ℕ → Result (Option (String Global)) WordsFault → Type 0
IsTextAt words at (Ok (Some text)) = (at < length words) × (is_readable (get_or words at []) ≡ true) × (string_bytes text ≡ get_or words at [])
IsTextAt words at (Ok None) = length words ≤ at
IsTextAt words at (Err (NotText k)) = (at < length words) × (is_readable (get_or words at []) ≡ false) × (k ≡ broken_at at)
IsTextAt words at (Err NoMemory) = Unit {0}

-- how words are wrong where one of them can't be read: 1 where it is the first, 2 where it stands behind it
abbrev pub unreadable : List (List ℕ) → Option ℕ
unreadable [] = None
unreadable (first ∷ rest) = if is_readable first then (if list_all is_readable rest then None else Some 2) else Some 1

-- words were read as texts, or one of them can't be read
abbrev pub AreTextsOf : List (List ℕ) → Result (Vec (String Global) Global) WordsFault → Type 0
AreTextsOf words (Ok texts) = map string_bytes texts.items ≡ words
AreTextsOf words (Err (NotText k)) = unreadable words ≡ Some k
AreTextsOf words (Err NoMemory) = Unit {0}
