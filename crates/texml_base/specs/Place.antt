-- Where open files stand in their list.
use Rattle.std.specs.Prelude.{ℕ, suc, List, [], ◌∷◌, if◌then◌else◌, ◌==◌}
use Rattle.texml_base.specs.declared.opened.Opened.{Opened}

-- where the first file of an id stands
abbrev pub place : {T : Type 0} → ℕ → List (Opened T) → ℕ
place id [] = 0
place id (o ∷ os) = if o.id == id then 0 else suc (place id os)
