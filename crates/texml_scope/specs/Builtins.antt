-- The builtins in their order, which the table `BUILTINS` has: those that are expanded, those that are executed, those that are digested.
use Rattle.std.specs.Prelude.{ℕ, Bool, true, false, List, [], ◌∷◌, map, Option, if◌then◌else◌, ◌&&◌, option_map, fold, find, nat_eq}
use Rattle.std.specs.List.{list_any}
use denote.Ref.{Bor}
use Rattle.texml_token.specs.Token.{text_eq}
use Rattle.texml_token.specs.Numbers.{Table, with_text}
use Rattle.texml_scope.specs.declared.builtins.Status.{Status}
use Rattle.texml_scope.specs.declared.builtins.Status.TheVariants.{Built, Later}
use Rattle.texml_scope.specs.declared.builtins.TheConstants.{BUILTINS, IF, IFCAT, IFX, IFNUM, IFDIM, IFODD, IFTRUE, IFFALSE, IFCASE}
use Rattle.texml_scope.specs.Groups.{set_local}
use Rattle.texml_scope.specs.Texts.{World, Name, key_eq, Means, Builtin as BuiltinMeaning, new_world}

-- a builtin's place, name, control names where they are others than its name, and whether it is built
abbrev pub Row : Type 0
Row = ℕ × List ℕ × List (List ℕ) × Status

-- the code's rows lend their texts
abbrev pub row_of : ℕ × Bor (List ℕ) × Bor (List (Bor (List ℕ))) × Status → Row
row_of b = (b.0, b.1.now, map (λ c. c.now) b.2.now, b.3)

-- the table of all builtins
abbrev pub table : List Row
table = map (λ b. (b.0, b.1.now, map (λ c. c.now) b.2.now, b.3)) BUILTINS

abbrev pub is_status_built : Status → Bool
is_status_built Built = true
is_status_built Later = false

abbrev pub is_built : Row → Bool
is_built b = is_status_built b.3

-- the place of the first of these builtins that is built and has this name
abbrev pub place_in : List Row → List ℕ → Option ℕ
place_in builtins name = option_map (λ b. b.0) (find (λ b. is_built b && text_eq b.1 name) builtins)

-- the place of a builtin in the order, counted from 0, if it is built
abbrev pub builtin_place : List ℕ → Option ℕ
builtin_place name = place_in table name

-- the builtins that begin a conditional
abbrev pub conditionals : List ℕ
conditionals = IF ∷ IFCAT ∷ IFX ∷ IFNUM ∷ IFDIM ∷ IFODD ∷ IFTRUE ∷ IFFALSE ∷ IFCASE ∷ []

abbrev pub is_conditional : ℕ → Bool
is_conditional place = list_any (nat_eq place) conditionals

-- the control names of a builtin, which is its own name where no others are given
abbrev pub own_or : List ℕ → List (List ℕ) → List (List ℕ)
own_or name [] = name ∷ []
own_or name (c ∷ cs) = c ∷ cs

abbrev pub controls_of : Row → List (List ℕ)
controls_of b = own_or b.1 b.2

-- the world in which this control name too means the builtin of this place
abbrev pub with_control : ℕ → World → List ℕ → World
with_control place w control = set_local key_eq (Name control) (Means (BuiltinMeaning place)) w

-- the world in which this builtin too has its control names, if it is built
abbrev pub with_builtin : World → Row → World
with_builtin w b = if is_built b then fold (with_control b.0) w (controls_of b) else w

-- the world of a run's start: each builtin that is built has its control names, and nothing else means anything
abbrev pub first_world : World
first_world = fold with_builtin new_world table

-- the table of names with the control names of this builtin too, if it is built, and with those of all
abbrev pub with_builtin_names : Table → Row → Table
with_builtin_names texts b = if is_built b then fold with_text texts (controls_of b) else texts

abbrev pub first_names : Table → Table
first_names texts = fold with_builtin_names texts table
