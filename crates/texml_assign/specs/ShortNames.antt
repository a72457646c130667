-- Names for characters and registers (The TeXbook, chapters 8, 15 and 24).
use Rattle.std.specs.Prelude.{ℕ, Bool}
use Rattle.texml_scope.specs.Texts.{Key, Meaning}
use Rattle.texml_scope.specs.declared.builtins.TheConstants.{RELAX}
use Rattle.texml_scope.specs.declared.values.MeaningOf.TheVariants.{Builtin, Quantity, Number}
use Rattle.texml_expand.specs.declared.variables.Index.{Index}
use Rattle.texml_expand.specs.declared.variables.Index.TheVariants as index
use Rattle.texml_expand.specs.State.{◌>>=◌, ◌>>◌, change}
use Rattle.texml_expand.specs.Variables.{key_of}
use Rattle.texml_expand.specs.Expand.{ByDepth, read_index}
use Rattle.texml_assign.specs.declared.table.ShortFor.{ShortFor}
use Rattle.texml_assign.specs.declared.table.ShortFor.TheVariants.{Character, Register}
use Rattle.texml_assign.specs.Targets.{variable_in}
use Rattle.texml_assign.specs.Operands.{next_key}
use Rattle.texml_assign.specs.Sets.{assign}
use Rattle.texml_assign.specs.Fillers.{optional_equals}

abbrev pub short_index : ShortFor → Index
short_index Character = index.Character
short_index (Register r) = index.Register

-- what a name for the character or the register of this number means
abbrev pub short_meaning : ShortFor → ℕ → Meaning
short_meaning Character c = Number c
short_meaning (Register r) number = Quantity (key_of (variable_in r) number)

-- the number, and what the name means from then on
abbrev pub short_number : Bool → ShortFor → Key → ByDepth (Unit {0})
short_number global what k n = do
  number ← read_index (short_index what) n
  change (assign global k (short_meaning what number))

-- behind an equals sign, which may be missing
abbrev pub short_equals : Bool → ShortFor → Key → ByDepth (Unit {0})
short_equals global what k n = do
  optional_equals n
  short_number global what k n

-- the name means \relax while the number is read
abbrev pub short_key : Bool → ShortFor → Key → ByDepth (Unit {0})
short_key global what k n = do
  change (assign global k (Builtin RELAX))
  short_equals global what k n

abbrev pub short_name : Bool → ShortFor → ByDepth (Unit {0})
short_name global what n = do
  k ← next_key
  short_key global what k n
