-- What a value is assigned to: a variable behind its index, or a register that has a name (The TeXbook, chapter 24).
use Rattle.std.specs.Prelude.{Bool, true, false, Option, None, Some}
use Rattle.std.specs.Option.{option_map}
use Rattle.texml_scope.specs.Texts.{Key, Meaning}
use Rattle.texml_scope.specs.declared.values.KeyOf.TheVariants as keys
use Rattle.texml_scope.specs.declared.values.MeaningOf.TheVariants.{Builtin, Quantity}
use Rattle.texml_expand.specs.declared.variables.Variable.{Variable}
use Rattle.texml_expand.specs.declared.variables.Variable.TheVariants.{EscapeChar, EndLineChar, Count, Dimen, Skip, Toks}
use Rattle.texml_expand.specs.Variables.{variable_at, key_of}
use Rattle.texml_expand.specs.Expand.{ByDepth, read_key}
use Rattle.texml_expand.specs.State.{give}
use Rattle.texml_assign.specs.declared.targets.Registers.{Registers}
use Rattle.texml_assign.specs.declared.targets.Registers.TheVariants as registers
use Rattle.texml_assign.specs.declared.targets.Target.{Target}
use Rattle.texml_assign.specs.declared.targets.Target.TheVariants.{Behind, Named}

-- the register that a name stands for
abbrev pub register_of : Key → Option Target
register_of (keys.Count n) = Some (Named registers.Count n)
register_of (keys.Dimen n) = Some (Named registers.Dimen n)
register_of (keys.Skip n) = Some (Named registers.Skip n)
register_of (keys.Toks n) = Some (Named registers.Toks n)
register_of k = None

-- what a meaning lets assign to, if it does
abbrev pub target_of : Meaning → Option Target
target_of (Builtin place) = option_map Behind (variable_at place)
target_of (Quantity k) = register_of k
target_of m = None

abbrev pub variable_in : Registers → Variable
variable_in registers.Count = Count
variable_in registers.Dimen = Dimen
variable_in registers.Skip = Skip
variable_in registers.Toks = Toks

abbrev pub variable_of : Target → Variable
variable_of (Behind v) = v
variable_of (Named r n) = variable_in r

-- the key that is assigned to, behind its index where it has no name
abbrev pub target_key : Target → ByDepth Key
target_key (Behind v) = read_key v
target_key (Named r number) = λ n. give (key_of (variable_in r) number)

-- whether the values of a variable can be counted with: numbers, dimensions and glue, but no codes of characters
abbrev pub is_counted : Variable → Bool
is_counted EscapeChar = true
is_counted EndLineChar = true
is_counted Count = true
is_counted Dimen = true
is_counted Skip = true
is_counted v = false

-- whether it is a list of tokens
abbrev pub is_list : Variable → Bool
is_list Toks = true
is_list v = false
