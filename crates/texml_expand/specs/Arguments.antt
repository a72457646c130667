-- The arguments of a macro (The TeXbook, chapter 20).
use Rattle.std.specs.Prelude.{ℕ, zero, suc, ◌-◌, ◌==◌, ◌&&◌, Bool, false, true, List, [], ◌∷◌, ◌++◌, Option, None, Some, unwrap_or, flat_map, slice_index_or, if◌then◌else◌}
use Rattle.texml_token.specs.Token.{Token, Char, Param}
use Rattle.texml_token.specs.declared.category.TheConstants.{SPACE, OTHER}
use Rattle.texml_token.specs.declared.fault_code.TheConstants.{EXTRA_BRACE, RUNAWAY_PAR, MISMATCH}
use Rattle.texml_scope.specs.Texts.{Meaning, World, MacroText}
use Rattle.texml_scope.specs.declared.values.MeaningOf.TheVariants.{Char as CharMeaning}
use Rattle.texml_match.specs.declared.arg_match.MatchFault.{MatchFault}
use Rattle.texml_match.specs.declared.arg_match.MatchFault.TheVariants.{Mismatch, RunawayPar, ExtraBrace}
use Rattle.texml_match.specs.Reading.{Read, Wants, Gives, Fails, Reader}
use Rattle.texml_match.specs.Shape.{shape_of}
use Rattle.texml_match.specs.Arguments.{argument, reading}
use Rattle.texml_expand.specs.declared.feeding.Verdict.{Verdict}
use Rattle.texml_expand.specs.declared.feeding.Verdict.TheVariants.{TooShort, Yields, Refuses}
use Rattle.texml_input.specs.Next.{Taken}
use Rattle.texml_expand.specs.State.{room, Reading, ◌>>=◌, ◌>>◌, give, change}
use Rattle.texml_expand.specs.Take.{take, back, means}
use Rattle.texml_expand.specs.Least.{by_least}

-- Lists of tokens, read at the front

abbrev pub fault_number : MatchFault → ℕ
fault_number Mismatch = MISMATCH
fault_number RunawayPar = RUNAWAY_PAR
fault_number ExtraBrace = EXTRA_BRACE

-- what tokens decide that are read
abbrev pub decided_by : {A : Type 0} → Read A → Verdict A
decided_by Wants = TooShort
decided_by (Gives a left) = Yields a
decided_by (Fails f) = Refuses (fault_number f)

-- what is read from the least number of next tokens that decide
abbrev pub read_by : {A : Type 0} → Reader A → Reading A
read_by reader = by_least (λ list. decided_by (reader list))

-- Spaces and signs

-- a space by its meaning: a character of that category
abbrev pub means_space : Meaning → Bool
means_space (CharMeaning c category) = category == SPACE
means_space m = false

abbrev pub is_space : World → Token → Bool
is_space w t = means_space (means w t)

-- the token itself, or where it is a space what follows it
abbrev pub past_space : Reading (Option Taken) → Option Taken → Reading (Option Taken)
past_space next None s = give None s
past_space next (Some t) s = (if is_space s.world t.token then next else give (Some t)) s

-- the first token behind so many spaces at most, which are taken, or the end
abbrev pub past_spaces : ℕ → Reading (Option Taken)
past_spaces zero = take
past_spaces (suc n) = do
  o ← take
  past_space (past_spaces n) o

-- behind all spaces: no more can stand there than the state has room for
abbrev pub behind_spaces : Reading (Option Taken)
behind_spaces s = past_spaces (room s) s

-- this character, of category 12
abbrev pub is_sign : ℕ → Token → Bool
is_sign code (Char c category) = c == code && category == OTHER
is_sign code t = false

-- another token goes back, and may be expanded from then on
abbrev pub no_sign : Taken → Reading Bool
no_sign t = do
  change (back t.token false)
  give false

abbrev pub sign_or_back : ℕ → Option Taken → Reading Bool
sign_or_back code None = give false
sign_or_back code (Some t) = if is_sign code t.token then give true else no_sign t

-- whether this sign comes behind spaces, which is taken with them; else the spaces alone are
abbrev pub sign : ℕ → Reading Bool
sign code = do
  o ← behind_spaces
  sign_or_back code o

abbrev pub open_bracket : ℕ
open_bracket = 91

abbrev pub close_bracket : Token
close_bracket = Char 93 OTHER

-- Arguments

abbrev pub some : {A : Type 0} → Reading A → Reading (Option A)
some reading = do
  a ← reading
  give (Some a)

abbrev pub behind_bracket : Bool → Bool → Reading (Option (List Token))
behind_bracket long false = give None
behind_bracket long true = some (read_by (argument long (close_bracket ∷ [])))

-- an argument in brackets behind spaces, where there is one
abbrev pub optional : Bool → Reading (Option (List Token))
optional long = do
  found ← sign open_bracket
  behind_bracket long found

-- the first argument of a macro, where it has a default: that in brackets, or else the default
abbrev pub first_argument : Bool → Option (List Token) → Reading (List (List Token))
first_argument long None = give []
first_argument long (Some default) = do
  found ← optional long
  give (unwrap_or found default ∷ [])

-- all arguments of a macro
abbrev pub macro_arguments : MacroText → Reading (List (List Token))
macro_arguments m = do
  first ← first_argument m.long m.params.default
  others ← read_by (reading (shape_of m.long m.params))
  give (first ++ others)

-- a body with its arguments in their places
abbrev pub filled_token : List (List Token) → Token → List Token
filled_token args (Param n) = slice_index_or args (n - 1) []
filled_token args t = t ∷ []

abbrev pub filled : List (List Token) → List Token → List Token
filled args body = flat_map (filled_token args) body

-- what the call of a macro gives: its body, with the arguments that stand behind it in their places
abbrev pub called : MacroText → Reading (List Token)
called m = do
  args ← macro_arguments m
  give (filled args m.body)

-- what commands read: an argument without a delimiter, and one in brackets. `\par` may stand in them
abbrev pub read_argument : Reading (List Token)
read_argument = read_by (argument true [])

abbrev pub read_optional : Reading (Option (List Token))
read_optional = optional true
