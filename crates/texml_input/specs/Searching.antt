-- The names under which a file is looked for.
use Rattle.std.specs.Prelude.{◌≡◌, ℕ, ◌==◌, Bool, IsTrue, if◌then◌else◌, List, [], ◌∷◌, ◌++◌, codes, Option, Some, None, Result, Ok, Err}
use Rattle.std.specs.List.{list_any}
use Rattle.texml_base.specs.Outside.{Shelf, IsOpened}
use Rattle.texml_base.specs.declared.files.Trouble.{Trouble}
use Rattle.texml_input.specs.declared.searching.TextFile.{TextFile}

abbrev pub dot : ℕ
dot = 46

abbrev pub has_dot : List ℕ → Bool
has_dot = list_any (λ b. b == dot)

-- a name with the ending of TeX's files
abbrev pub with_ending : List ℕ → List ℕ
with_ending name = name ++ codes ".tex"

-- the names that are tried for a name, one after the other: one without a dot is rather meant to get the ending
abbrev pub names_tried : List ℕ → List (List ℕ)
names_tried name = if has_dot name then name ∷ with_ending name ∷ [] else with_ending name ∷ name ∷ []

-- a name, if it has contents, and else another answer
abbrev pub if_there : List ℕ → Option (List ℕ) → Option (List ℕ) → Option (List ℕ)
if_there name (Some bytes) other = Some name
if_there name None other = other

-- the first of these names that is one of a file
abbrev pub first_there : (List ℕ → Option (List ℕ)) → List (List ℕ) → Option (List ℕ)
first_there contents [] = None
first_there contents (name ∷ names) = if_there name (contents name) (first_there contents names)

-- the file of the first name was opened that is one of a file; or there is none of these names; at a failure nothing was opened
abbrev pub OpensFirst : Shelf → Shelf → List (List ℕ) → Result (Option TextFile) Trouble → Type 0
OpensFirst old new names (Ok (Some f)) = IsOpened old new f.name f.id × (IsTrue old.tells → first_there old.contents names ≡ Some f.name)
OpensFirst old new names (Ok None) = (new ≡ old) × (IsTrue old.tells → first_there old.contents names ≡ None)
OpensFirst old new names (Err e) = new ≡ old
