-- Assignments to variables (The TeXbook, chapters 7, 15, 20 and 24): an equals sign, which may be missing, and a value.
use Rattle.std.specs.Prelude.{ℤ, pos, ◌==◌, nat_le, Bool, false, if◌then◌else◌, [], Option, None, Some}
use Rattle.texml_token.specs.declared.category.TheConstants.{BEGIN_GROUP, INVALID}
use Rattle.texml_token.specs.declared.fault_code.TheConstants.{FILE_ENDED, MISSING_BRACE}
use Rattle.texml_scope.specs.Texts.{Key, Meaning, Value}
use Rattle.texml_scope.specs.declared.values.KeyOf.TheVariants as keys
use Rattle.texml_scope.specs.declared.values.MeaningOf.TheVariants.{Char as CharMeaning}
use Rattle.texml_scope.specs.declared.values.ValueOf.TheVariants as values
use Rattle.texml_expand.specs.declared.variables.Index.TheVariants.{Character}
use Rattle.texml_expand.specs.State.{Reading, ◌>>=◌, ◌>>◌, give, fail, change}
use Rattle.texml_expand.specs.Absorb.{absorb}
use Rattle.texml_expand.specs.Variables.{among}
use Rattle.texml_expand.specs.Quantities.{Looked}
use Rattle.texml_expand.specs.Expand.{ByDepth, means, read_int, read_dimen, read_glue, read_index}
use Rattle.texml_assign.specs.declared.targets.Target.{Target}
use Rattle.texml_assign.specs.declared.fillers.Filler.TheVariants.{SpacesAndRelax}
use Rattle.texml_assign.specs.declared.assignments.ListStart.{ListStart}
use Rattle.texml_assign.specs.declared.assignments.ListStart.TheVariants.{Group, Register}
use Rattle.texml_assign.specs.Fillers.{first_behind, optional_equals}
use Rattle.texml_assign.specs.Sets.{set}
use Rattle.texml_assign.specs.Targets.{target_of, target_key, variable_of, is_list}

-- Numbers, dimensions and glue

abbrev pub next_number : ByDepth Value
next_number n = do
  z ← read_int n
  give (values.Number z)

-- a number from 0 to 15, or else fault 11
abbrev pub category_of : ℤ → Reading Value
category_of z = do
  c ← among (λ k. nat_le k INVALID) z
  give (values.Number (pos c))

abbrev pub next_category : ByDepth Value
next_category n = do
  z ← read_int n
  category_of z

-- the number of a character
abbrev pub next_code : ByDepth Value
next_code n = do
  c ← read_index Character n
  give (values.Number (pos c))

abbrev pub next_dimension : ByDepth Value
next_dimension n = do
  d ← read_dimen n
  give (values.Number d.0)

abbrev pub next_glue : ByDepth Value
next_glue n = do
  g ← read_glue n
  give (values.Glue g)

-- Lists of tokens: a brace begins one, or it is that of a register

abbrev pub register_list : Option Target → Option ListStart
register_list None = None
register_list (Some target) = if is_list (variable_of target) then Some (Register target) else None

abbrev pub begins_list : Meaning → Option ListStart
begins_list (CharMeaning c category) = if category == BEGIN_GROUP then Some Group else None
begins_list m = register_list (target_of m)

abbrev pub needed_start : Option ListStart → Reading ListStart
needed_start None = fail MISSING_BRACE []
needed_start (Some start) = give start

abbrev pub list_start : Option Looked → Reading ListStart
list_start None s = fail FILE_ENDED [] s
list_start (Some x) s = needed_start (begins_list (means s.world x.counts)) s

abbrev pub value_now : Key → Reading Value
value_now k s = give (s.world.top k) s

abbrev pub absorbed_list : ByDepth Value
absorbed_list n = do
  list ← absorb false n
  give (values.List list)

abbrev pub copied_list : Target → ByDepth Value
copied_list target n = do
  k ← target_key target n
  value_now k

abbrev pub list_from : ListStart → ByDepth Value
list_from Group = absorbed_list
list_from (Register target) = copied_list target

abbrev pub list_by : Option Looked → ByDepth Value
list_by o n = do
  start ← list_start o
  list_from start n

-- spaces and \relax may stand before it
abbrev pub next_list : ByDepth Value
next_list n = do
  o ← first_behind SpacesAndRelax n
  list_by o n

-- Values

-- what a key is assigned
abbrev pub value_for : Key → ByDepth Value
value_for (keys.Cat c) = next_category
value_for (keys.Lower c) = next_code
value_for (keys.Upper c) = next_code
value_for (keys.Dimen r) = next_dimension
value_for (keys.Skip r) = next_glue
value_for (keys.Toks r) = next_list
value_for k = next_number

-- a value for a key
abbrev pub assign_next : Bool → Key → ByDepth (Unit {0})
assign_next global k n = do
  v ← value_for k n
  change (set global k v)

-- behind an equals sign, which may be missing
abbrev pub assign_to : Bool → Key → ByDepth (Unit {0})
assign_to global k n = do
  optional_equals n
  assign_next global k n

-- an assignment: what is assigned to, an equals sign and a value
abbrev pub assignment : Bool → Target → ByDepth (Unit {0})
assignment global target n = do
  k ← target_key target n
  assign_to global k n
