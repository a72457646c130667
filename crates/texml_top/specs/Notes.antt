-- The line that is noted for a status.
use Rattle.std.specs.Prelude.{◌≡◌, ◌⊎◌, ℕ, List, [], ◌∷◌, ◌++◌, take, codes, slice_index_or}
use Rattle.std.specs.Fmt.{decimal}
use Rattle.texml_base.specs.Outside.{Ink, inked}
use Rattle.texml_base.specs.Rising.{Rose}
use Rattle.texml_token.specs.Faults.{fault_name}
use Rattle.texml_token.specs.declared.fault.Fault.{Fault}
use Rattle.texml_tree.specs.declared.model_fault.ModelFault.{ModelFault}
use Rattle.texml_top.specs.declared.status.Status.{Status}
use Rattle.texml_top.specs.declared.status.Status.TheVariants as status

-- the names of what the table of elements doesn't allow, by number from 1 on
abbrev pub model_fault_names : List (List ℕ)
model_fault_names =
    []
    ∷ codes "NoPlace"
    ∷ codes "NoText"
    ∷ codes "NothingToClose"
    ∷ codes "Unclosed"
    ∷ codes "BadAttribute"
    ∷ codes "TreeDepth"
    ∷ []

-- which is empty where nothing has this number
abbrev pub model_fault_name : ℕ → List ℕ
model_fault_name code = slice_index_or model_fault_names code []

-- a word with a space before it; an empty one leaves nothing
abbrev pub spaced : List ℕ → List ℕ
spaced [] = []
spaced (c ∷ word) = codes " " ++ c ∷ word

-- the last word of a line
abbrev pub last_word : List ℕ → List ℕ
last_word word = spaced word ++ codes "\n"

-- the number and the name of a fault
abbrev pub numbered : ℕ → List ℕ → List ℕ
numbered code name = decimal code ++ spaced name

abbrev pub placed : List ℕ → ℕ → List ℕ
placed file line = file ++ (codes ":" ++ decimal line)

abbrev pub usage_note : List ℕ
usage_note = codes "usage: texml convert FILE [--binding FILE] [--limit N] [--watch LIST] | expand FILE [--binding FILE] [--limit N] | self N\n"

-- where a fault of the text is, its number, its name, and what it is about
abbrev pub fault_note : Fault → List ℕ
fault_note f = placed f.file f.line ++ (codes ": fault " ++ (numbered f.code (fault_name f.code) ++ last_word f.about))

-- the number of what isn't allowed, its name, the element or attribute, and the element that it stands in
abbrev pub model_note : ModelFault → List ℕ
model_note f = codes "model fault " ++ (numbered f.code (model_fault_name f.code) ++ (spaced f.child ++ last_word f.parent))

abbrev pub limit_note : ℕ → List ℕ
limit_note limit = codes "limit " ++ decimal limit ++ codes " reached\n"

-- a line for each status but `Done`
abbrev pub note_of : Status → List ℕ
note_of status.Done = []
note_of (status.Usage k) = usage_note
note_of (status.Tex f) = fault_note f
note_of (status.Model f) = model_note f
note_of (status.Limit n) = limit_note n
note_of status.ReadFault = codes "read failed\n"
note_of status.WriteFault = codes "write failed\n"
note_of status.NoMemory = codes "out of memory\n"

-- How the end of a run was noted: by the line of its status, or by a first part of that where the notes' count of faults rose. Where it
-- didn't rise the count is as before, and so it is at `Done`, which has no line.
pub record Noted (ended : Status) (old new : Ink) (before now : ℕ) : Type 0 where
  pub first : (n : ℕ) × (new ≡ inked old (take n (note_of ended)))
  pub whole : (Rose before now → ⊥) → new ≡ inked old (note_of ended)
  pub count : (now ≡ before) ⊎ Rose before now
  pub silent : ended ≡ status.Done → now ≡ before
