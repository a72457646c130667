-- What can be executed: prefixes and commands, and what may stand behind what (The TeXbook, chapter 24).
use Rattle.std.specs.Prelude.{ℕ, ◌==◌, ◌||◌, Bool, true, false, if◌then◌else◌, Option, None, Some}
use Rattle.std.specs.Option.{option_map}
use Rattle.texml_scope.specs.Texts.{Meaning}
use Rattle.texml_scope.specs.declared.values.MeaningOf.TheVariants.{Builtin, Quantity}
use Rattle.texml_scope.specs.declared.builtins.TheConstants.{RELAX, DEF, GDEF, LET, LONG, OUTER, GLOBAL, BEGINGROUP, ENDGROUP, AFTERGROUP, AFTERASSIGNMENT, EDEF, XDEF, LOWERCASE, UPPERCASE, IGNORESPACES, NEWIF, NEWCOMMAND, RENEWCOMMAND, PROVIDECOMMAND, CHARDEF, COUNTDEF, DIMENDEF, SKIPDEF, TOKSDEF, ADVANCE, MULTIPLY, DIVIDE}
use Rattle.texml_assign.specs.declared.targets.Registers.TheVariants.{Count, Dimen, Skip, Toks}
use Rattle.texml_expand.specs.Variables.{variable_at}
use Rattle.texml_assign.specs.declared.targets.Target.{Target}
use Rattle.texml_assign.specs.declared.targets.Target.TheVariants.{Behind}
use Rattle.texml_assign.specs.declared.table.ShortFor.TheVariants.{Character, Register}
use Rattle.texml_assign.specs.declared.table.Arithmetic.TheVariants.{Advance, Multiply, Divide}
use Rattle.texml_assign.specs.declared.table.Naming.TheVariants.{New, Renew, Provide}
use Rattle.texml_assign.specs.declared.letters.Case.TheVariants.{Small, Capital}
use Rattle.texml_assign.specs.declared.table.Prefix.{Prefix as PrefixWord}
use Rattle.texml_assign.specs.declared.table.Prefix.TheVariants.{Long, Outer, Global}
use Rattle.texml_assign.specs.declared.table.Command.{Command as CommandWord}
use Rattle.texml_assign.specs.declared.table.Command.TheVariants.{Relax, Def, Gdef, Edef, Xdef, Let, BeginGroup, EndGroup, AfterGroup, AfterAssignment, NewCommand, NewIf, ChangeCase, IgnoreSpaces, Assign, Short, Arithmetic}
use Rattle.texml_assign.specs.declared.table.Executable.{Executable}
use Rattle.texml_assign.specs.declared.table.Executable.TheVariants.{Prefix, Command}
use Rattle.texml_assign.specs.declared.table.Prefixes.{Prefixes}
use Rattle.texml_assign.specs.Targets.{register_of}

-- what is assigned to makes a command
abbrev pub assigns : Option Target → Option Executable
assigns = option_map (λ target. Command (Assign target))

-- what the builtin of a place is, if it can be executed
abbrev pub executable_at : ℕ → Option Executable
executable_at place =
    if place == RELAX then Some (Command Relax)
    else if place == DEF then Some (Command Def)
    else if place == GDEF then Some (Command Gdef)
    else if place == EDEF then Some (Command Edef)
    else if place == XDEF then Some (Command Xdef)
    else if place == LET then Some (Command Let)
    else if place == LONG then Some (Prefix Long)
    else if place == OUTER then Some (Prefix Outer)
    else if place == GLOBAL then Some (Prefix Global)
    else if place == BEGINGROUP then Some (Command BeginGroup)
    else if place == ENDGROUP then Some (Command EndGroup)
    else if place == AFTERGROUP then Some (Command AfterGroup)
    else if place == AFTERASSIGNMENT then Some (Command AfterAssignment)
    else if place == NEWCOMMAND then Some (Command (NewCommand New))
    else if place == RENEWCOMMAND then Some (Command (NewCommand Renew))
    else if place == PROVIDECOMMAND then Some (Command (NewCommand Provide))
    else if place == NEWIF then Some (Command NewIf)
    else if place == LOWERCASE then Some (Command (ChangeCase Small))
    else if place == UPPERCASE then Some (Command (ChangeCase Capital))
    else if place == IGNORESPACES then Some (Command IgnoreSpaces)
    else if place == CHARDEF then Some (Command (Short Character))
    else if place == COUNTDEF then Some (Command (Short (Register Count)))
    else if place == DIMENDEF then Some (Command (Short (Register Dimen)))
    else if place == SKIPDEF then Some (Command (Short (Register Skip)))
    else if place == TOKSDEF then Some (Command (Short (Register Toks)))
    else if place == ADVANCE then Some (Command (Arithmetic Advance))
    else if place == MULTIPLY then Some (Command (Arithmetic Multiply))
    else if place == DIVIDE then Some (Command (Arithmetic Divide))
    else assigns (option_map Behind (variable_at place))

abbrev pub executable_of : Meaning → Option Executable
executable_of (Builtin place) = executable_at place
executable_of (Quantity k) = assigns (register_of k)
executable_of m = None

-- which commands are definitions, and which are assignments: behind these comes the token of \afterassignment
abbrev pub is_definition : CommandWord → Bool
is_definition Def = true
is_definition Gdef = true
is_definition Edef = true
is_definition Xdef = true
is_definition c = false

abbrev pub is_assignment : CommandWord → Bool
is_assignment Let = true
is_assignment (Assign target) = true
is_assignment (Short s) = true
is_assignment (Arithmetic a) = true
is_assignment c = is_definition c

abbrev pub no_prefixes : Prefixes
no_prefixes = record { long = false; outer = false; global = false }

-- the prefixes with one more
abbrev pub with_prefix : Prefixes → PrefixWord → Prefixes
with_prefix p Long = record p { long = true }
with_prefix p Outer = record p { outer = true }
with_prefix p Global = record p { global = true }

-- whether a command may stand behind prefixes: an assignment, and behind \long or \outer a definition alone
abbrev pub may_follow : Prefixes → CommandWord → Bool
may_follow p c = if p.long || p.outer then is_definition c else is_assignment c
