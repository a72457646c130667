-- Open files by their ids.
use Rattle.std.specs.Prelude.{ℕ, List, [], ◌∷◌, if◌then◌else◌, ◌==◌, None, Some}
use Rattle.std.specs.declared.option.Option.{Option}
use Rattle.texml_base.specs.declared.opened.Opened.{Opened}

-- their ids, in order
abbrev pub ids_of : {T : Type 0} → List (Opened T) → List ℕ
ids_of [] = []
ids_of (o ∷ os) = o.id ∷ ids_of os

-- the file of an id
abbrev pub held : {T : Type 0} → List (Opened T) → ℕ → Option T
held [] id = None
held (o ∷ os) id = if o.id == id then Some o.file else held os id
