-- New commands (Lamport's LaTeX manual, section C.8): names whose macros are given by the number of their parameters.
use Rattle.std.specs.Prelude.{ℕ, zero, suc, ◌==◌, not, Bool, true, false, if◌then◌else◌, List, [], ◌∷◌, ◌++◌, Option, None, Some}
use Rattle.std.specs.Option.{option_and_then}
use Rattle.texml_token.specs.Token.{Token, has_category}
use Rattle.texml_token.specs.declared.pieces.PieceOf.{PieceOf}
use Rattle.texml_token.specs.declared.pieces.PieceOf.TheVariants.{Slot}
use Rattle.texml_token.specs.declared.category.TheConstants.{SPACE}
use Rattle.texml_token.specs.declared.fault_code.TheConstants.{UNDEFINED, BAD_PARAMETER, MISPLACED, NAME_TAKEN}
use Rattle.texml_scope.specs.Texts.{Key, Meaning}
use Rattle.texml_scope.specs.Values.{Macro as MacroBy}
use Rattle.texml_scope.specs.declared.builtins.TheConstants.{RELAX}
use Rattle.texml_scope.specs.declared.values.MeaningOf.TheVariants.{Undefined, Builtin, Macro}
use Rattle.texml_expand.specs.State.{State, Reading, ◌>>=◌, give, fail, change}
use Rattle.texml_expand.specs.Expand.{spelling}
use Rattle.texml_expand.specs.Arguments.{sign, read_argument, read_optional}
use Rattle.texml_assign.specs.declared.table.Naming.{Naming}
use Rattle.texml_assign.specs.declared.table.Naming.TheVariants.{New, Renew, Provide}
use Rattle.texml_assign.specs.Loop.{ByDepth}
use Rattle.texml_expand.specs.Take.{means}
use Rattle.texml_assign.specs.Operands.{key_of}
use Rattle.texml_assign.specs.Parameters.{digit}
use Rattle.texml_assign.specs.Define.{body_said}
use Rattle.texml_assign.specs.Sets.{assign}

-- The star

-- whether a star of category 12 comes behind spaces, which is taken with them
abbrev pub starred : Reading Bool
starred = sign 42

-- The name

-- the only token, spaces aside
abbrev pub only : List Token → Option Token
only (t ∷ []) = Some t
only list = None

abbrev pub without_spaces : List Token → List Token
without_spaces [] = []
without_spaces (t ∷ ts) = if has_category SPACE t then without_spaces ts else t ∷ without_spaces ts

abbrev pub only_token : List Token → Option Token
only_token list = only (without_spaces list)

-- whether nothing is meant, or nothing but \relax
abbrev pub is_undefined : Meaning → Bool
is_undefined Undefined = true
is_undefined m = false

abbrev pub is_free : Meaning → Bool
is_free (Builtin place) = place == RELAX
is_free m = is_undefined m

-- whether a name of this meaning is to be defined: a new one must be free, one that is renewed must have a meaning, and one that is provided stays as it is where it has one
abbrev pub defines : Naming → Token → Meaning → Reading Bool
defines New t m = if is_free m then give true else fail NAME_TAKEN (spelling t)
defines Renew t m = if is_undefined m then fail UNDEFINED (spelling t) else give true
defines Provide t m = give (is_undefined m)

abbrev pub keep_if : {A : Type 0} → A → Bool → Option A
keep_if a true = Some a
keep_if a false = None

abbrev pub defines_now : Naming → Token → Reading Bool
defines_now naming t s = defines naming t (means s.world t) s

-- its key, if it is to be defined
abbrev pub key_to_define : Naming → Token → Key → Reading (Option Key)
key_to_define naming t k = do
  b ← defines_now naming t
  give (keep_if k b)

abbrev pub key_of_name : Naming → Option Token → Reading (Option Key)
key_of_name naming None = fail MISPLACED []
key_of_name naming (Some t) = do
  k ← key_of t
  key_to_define naming t k

-- the name that comes next, with or without braces
abbrev pub command_key : Naming → Reading (Option Key)
command_key naming = do
  list ← read_argument
  key_of_name naming (only_token list)

-- The macro

-- the number of parameters: a digit alone, and 0 where nothing is said
abbrev pub needed_number : Option ℕ → Reading ℕ
needed_number None = fail BAD_PARAMETER []
needed_number (Some n) = give n

abbrev pub only_digit : List Token → Option ℕ
only_digit list = option_and_then digit (only_token list)

abbrev pub number_said : Option (List Token) → Reading ℕ
number_said None = give 0
number_said (Some list) = needed_number (only_digit list)

abbrev pub parameter_count : Reading ℕ
parameter_count = do
  said ← read_optional
  number_said said

-- a default is one of the first parameter, which there must be
abbrev pub fitting : ℕ → Option (List Token) → Reading (Option (List Token))
fitting zero (Some list) = fail BAD_PARAMETER []
fitting n default = give default

abbrev pub first_default : ℕ → Reading (Option (List Token))
first_default slots = do
  default ← read_optional
  fitting slots default

abbrev pub argument_body : ℕ → Reading (List Token)
argument_body slots = do
  list ← read_argument
  body_said slots list

-- so many parameters, one behind the other
abbrev pub numbered : {T : Type 0} → ℕ → List (PieceOf T)
numbered zero = []
numbered (suc n) = numbered n ++ Slot (suc n) ∷ []

abbrev pub command_of : {T : Type 0} → Bool → ℕ → Option (List T) → List T → MacroBy T
command_of long slots default body = record { long = long; params = record { default = default; pieces = numbered slots }; body = body }

-- the number of its parameters, the default of the first, and its body
abbrev pub command_macro : Bool → Reading Meaning
command_macro long = do
  slots ← parameter_count
  default ← first_default slots
  body ← argument_body slots
  give (Macro (command_of long slots default body))

-- The command

abbrev pub assign_some : Option Key → Meaning → State → State
assign_some None m s = s
assign_some (Some k) m s = assign false k m s

-- a star behind which the macro isn't long, a name, and the macro that it means from now on, where it is to be defined
abbrev pub new_command : Naming → ByDepth (Unit {0})
new_command naming n = do
  star ← starred
  k ← command_key naming
  m ← command_macro (not star)
  change (assign_some k m)
