-- New conditionals (The TeXbook, chapter 20): a name that begins with `if`, and two macros by which it becomes true and false.
use Rattle.std.specs.Prelude.{ℕ, List, [], ◌∷◌, ◌++◌, map, codes, false, Option, None, Some, if◌then◌else◌}
use Rattle.texml_token.specs.Token.{Token, Named, text_eq}
use Rattle.texml_token.specs.declared.fault_code.TheConstants.{BAD_PARAMETER}
use Rattle.texml_scope.specs.declared.values.KeyOf.TheVariants.{Name}
use Rattle.texml_scope.specs.declared.values.MeaningOf.TheVariants.{Macro}
use Rattle.texml_scope.specs.Values.{plain_macro}
use Rattle.texml_expand.specs.State.{State, Reading, ◌>>=◌, ◌>>◌, give, fail, change}
use Rattle.texml_expand.specs.Take.{means}
use Rattle.texml_assign.specs.Operands.{next_token}
use Rattle.texml_assign.specs.Sets.{assign}

-- what stands behind the `if` that a text begins with
abbrev pub behind_if : List ℕ → Option (List ℕ)
behind_if (i ∷ f ∷ part) = if text_eq (i ∷ f ∷ []) (codes "if") then Some part else None
behind_if text = None

abbrev pub part_in : Token → Option (List ℕ)
part_in (Named text) = behind_if text
part_in t = None

abbrev pub needed_part : Option (List ℕ) → Reading (List ℕ)
needed_part None = fail BAD_PARAMETER []
needed_part (Some part) = give part

-- a name means what another one means
abbrev pub let_name : List ℕ → List ℕ → State → State
let_name name other s = assign false (Name name) (means s.world (Named other)) s

-- a name is a macro of these names
abbrev pub define_name : List ℕ → List (List ℕ) → State → State
define_name name body = assign false (Name name) (Macro (plain_macro (map Named body)))

-- a macro that lets a conditional be \iftrue or \iffalse
abbrev pub set_to : List ℕ → List ℕ → State → State
set_to truth part = define_name (part ++ truth) (codes "let" ∷ (codes "if" ++ part) ∷ (codes "if" ++ truth) ∷ [])

-- it is false at first
abbrev pub conditional : List ℕ → Reading (Unit {0})
conditional part = do
  change (let_name (codes "if" ++ part) (codes "if" ++ codes "false"))
  change (set_to (codes "true") part)
  change (set_to (codes "false") part)

abbrev pub new_if_of : Token → Reading (Unit {0})
new_if_of t = do
  part ← needed_part (part_in t)
  conditional part

abbrev pub new_if : Reading (Unit {0})
new_if = do
  t ← next_token
  new_if_of t
