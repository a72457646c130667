-- Only private contracts need these: the keys of the code that are assigned to, and the values that may take a place.
use Rattle.std.specs.Prelude.{◌≡◌, ℕ, ℤ, true}
use Rattle.texml_scope.specs.declared.values.KeyOf.TheVariants as keys
use Rattle.texml_scope.specs.Shown.{KeyCode}
use Rattle.texml_scope.specs.World.{MaySet}
use Rattle.texml_fixed.specs.Arithmetic.{IsWithin}
use Rattle.texml_fixed.specs.Glue.{IsGlueWithin}
use Rattle.texml_expand.specs.declared.variables.Variable.{Variable}
use Rattle.texml_expand.specs.VariableCodes.{key_by}
use Rattle.texml_assign.specs.declared.arithmetic.Counted.{Counted}
use Rattle.texml_assign.specs.declared.arithmetic.Counted.TheVariants.{Number, Dimension, Glue}
use Rattle.texml_assign.specs.declared.assignments.ListStart.{ListStart}
use Rattle.texml_assign.specs.declared.assignments.ListStart.TheVariants.{Group, Register}
use Rattle.texml_assign.specs.Targets.{variable_of, is_counted, is_list}
use Rattle.texml_assign.specs.Arithmetic.{value_from}

-- it is one of the variables that one builtin names
pub record IsKeyOf (v : Variable) (k : KeyCode) : Type 0 where
  pub number : ℕ
  pub is : k ≡ key_by v number

-- it is one of the variables that some builtin names
pub record IsVariable (k : KeyCode) : Type 0 where
  pub variable : Variable
  pub is : IsKeyOf variable k

-- and one whose values can be counted with
pub record IsCounted (k : KeyCode) : Type 0 where
  pub variable : Variable
  pub is : IsKeyOf variable k
  pub counted : is_counted variable ≡ true

-- a result of the same kind, within its bound
abbrev pub IsLike : Counted → Counted → Type 0
IsLike (Number a) (Number b) = IsWithin b
IsLike (Dimension a) (Dimension b) = IsWithin b.0
IsLike (Glue a) (Glue b) = IsGlueWithin b
IsLike a b = ⊥

-- each such result may take the place of what a key has
abbrev pub Suits : KeyCode → Counted → Type 0
Suits k a = (b : Counted) → IsLike a b → MaySet k (value_from b)

-- parts within their bounds
abbrev pub IsCountWithin : Counted → Type 0
IsCountWithin (Number a) = IsWithin a
IsCountWithin (Dimension a) = IsWithin a.0
IsCountWithin (Glue a) = IsGlueWithin a

-- a list begins with a group or is that of a register of lists
abbrev pub StartsList : ListStart → Type 0
StartsList Group = Unit {0}
StartsList (Register target) = is_list (variable_of target) ≡ true

-- what the number of a key is counted as
abbrev pub number_by : KeyCode → ℤ → Counted
number_by (keys.Dimen r) z = Dimension (record { 0 = z })
number_by k z = Number z
