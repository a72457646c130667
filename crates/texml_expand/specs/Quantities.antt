-- Quantities, read token by token (The TeXbook, chapters 15 and 24).
use Rattle.std.specs.Prelude.{ℕ, ℤ, pos, ◌-◌, Bool, true, false, List, [], ◌∷◌, ◌++◌, length, map, drop, Option, Some, None, if◌then◌else◌}
use Rattle.std.specs.Option.{option_map}
use Rattle.std.specs.Fmt.{signed_decimal}
use Rattle.texml_token.specs.Token.{Token, Fixed}
use Rattle.texml_token.specs.declared.fault_code.TheConstants.{FILE_ENDED, MISSING_NUMBER, NUMBER_TOO_BIG, DIMENSION_TOO_LARGE, ILLEGAL_UNIT}
use Rattle.texml_scope.specs.Texts.{Key, Meaning, World}
use Rattle.texml_scope.specs.declared.values.MeaningOf.TheVariants as meanings
use Rattle.texml_fixed.specs.declared.scaled.Scaled.{Scaled}
use Rattle.texml_fixed.specs.declared.glue.Glue.{Glue as GlueValue}
use Rattle.texml_scan.specs.declared.looks.Look.{Look}
use Rattle.texml_scan.specs.declared.looks.Look.TheVariants.{End}
use Rattle.texml_scan.specs.declared.looks.Held.{Held}
use Rattle.texml_scan.specs.declared.looks.Held.TheVariants as held
use Rattle.texml_scan.specs.declared.steps.ScanFault.{ScanFault}
use Rattle.texml_scan.specs.declared.steps.ScanFault.TheVariants.{MissingNumber, TooBig, TooLarge, IllegalUnit}
use Rattle.texml_scan.specs.Grammar.{Expanded, Raw, Asked, Verdict, Wanting, Decided, Faulty, Remainder, verdict}
use Rattle.texml_scan.specs.Looked.{look_of}
use Rattle.texml_scan.specs.Number.{number}
use Rattle.texml_scan.specs.Measure.{dimension}
use Rattle.texml_scan.specs.Glue.{glue}
use Rattle.texml_scan.specs.Keyword.{keyword}
use Rattle.texml_expand.specs.declared.variables.Variable.{Variable}
use Rattle.texml_expand.specs.declared.variables.Index.{Index}
use Rattle.texml_expand.specs.declared.variables.Index.TheVariants.{Alone, Character, Register}
use Rattle.texml_input.specs.Next.{Taken}
use Rattle.texml_expand.specs.State.{State, Reading, ◌>>=◌, ◌>>◌, give, fail, change}
use Rattle.texml_expand.specs.Take.{take, put, meaning_of, means}
use Rattle.texml_expand.specs.Printed.{printed_tokens, printed_dimension, printed_glue}
use Rattle.texml_expand.specs.Variables.{variable_at, index_of, key_of, a_character, a_register, Internal, Number, Dimension, Glue, Tokens, value_of}
use Rattle.texml_expand.specs.Calls.{Expandable, expandable, Seen, looks, Calls}

-- Grammars

abbrev pub int_text : Remainder ℤ
int_text xs = verdict (number xs)

abbrev pub dimension_text : Remainder Scaled
dimension_text xs = verdict (dimension xs)

abbrev pub glue_text : Remainder GlueValue
glue_text xs = verdict (glue xs)

abbrev pub keyword_text : List ℕ → Remainder Bool
keyword_text word xs = verdict (keyword word xs)

-- Tokens

-- a token that is kept from being expanded counts as the fixed \relax where it would have been
abbrev pub relaxed : Token → Option Expandable → Token
relaxed t None = t
relaxed t (Some e) = Fixed

abbrev pub frozen_as : Token → Option Meaning → Token
frozen_as t (Some meanings.Undefined) = Fixed
frozen_as t m = relaxed t (expandable m)

abbrev pub counts_as : World → Taken → Token
counts_as w t = if t.frozen then frozen_as t.token (meaning_of w t.token) else t.token

-- a token that is looked at, and what it counts as there
pub record Looked : Type 0 where
  pub token : Token
  pub counts : Token

abbrev pub looked_at : World → Taken → Looked
looked_at w t = record { token = t.token; counts = counts_as w t }

abbrev pub as_it_counts : Option Taken → Reading (Option Looked)
as_it_counts o s = give (option_map (looked_at s.world) o) s

abbrev pub as_itself : Taken → Looked
as_itself t = record { token = t.token; counts = t.token }

-- the next token that isn't expanded, and what it counts as
abbrev pub expanded : Calls → Reading (Option Looked)
expanded calls = do
  o ← calls.fetch
  as_it_counts o

-- the next token as it stands
abbrev pub unexpanded : Reading (Option Looked)
unexpanded = do
  o ← take
  give (option_map as_itself o)

-- the one or the other
abbrev pub next_looked : Calls → Bool → Reading (Option Looked)
next_looked calls true = unexpanded
next_looked calls false = expanded calls

-- Internal quantities

-- the number behind the builtin of a variable, where there is one
abbrev pub read_index : Calls → Index → Reading ℕ
read_index calls Alone = give 0
read_index calls Character = do
  i ← calls.scan int_text []
  a_character i
read_index calls Register = do
  i ← calls.scan int_text []
  a_register i

-- the variable that its builtin and what comes behind it name
abbrev pub read_key : Calls → Variable → Reading Key
read_key calls v = do
  n ← read_index calls (index_of v)
  give (key_of v n)

abbrev pub internal_of : Calls → Option Variable → Reading Internal
internal_of calls None = fail MISSING_NUMBER []
internal_of calls (Some v) = do
  k ← read_key calls v
  value_of k

-- what a token of this meaning begins: a quantity, or a list of tokens
abbrev pub internal : Calls → Meaning → Reading Internal
internal calls (meanings.Number c) = give (Number (pos c))
internal calls (meanings.Quantity k) = value_of k
internal calls (meanings.Builtin place) = internal_of calls (variable_at place)
internal calls m = fail MISSING_NUMBER []

-- what is held of it for a look. A list of tokens is no quantity
abbrev pub held_of : Internal → Held
held_of (Number i) = held.Int i
held_of (Dimension d) = held.Dimen d
held_of (Glue g) = held.Glue g
held_of (Tokens list) = held.Nothing

-- Looking at tokens

-- the look of a token, with the quantity that it begins where one is asked for
abbrev pub look_by : {V : Type 0} → Calls → Token → Meaning → Verdict V → Reading Look
look_by calls t m (Wanting Asked) = do
  q ← internal calls m
  give (look_of t m (held_of q))
look_by calls t m v = give (look_of t m held.Nothing)

abbrev pub look : {V : Type 0} → Calls → Remainder V → List Seen → Token → Reading Look
look calls g seen t s =
    look_by calls t (means s.world t) (g (looks seen ++ look_of t (means s.world t) held.Nothing ∷ [])) s

abbrev pub scan_fault : ScanFault → ℕ
scan_fault MissingNumber = MISSING_NUMBER
scan_fault TooBig = NUMBER_TOO_BIG
scan_fault TooLarge = DIMENSION_TOO_LARGE
scan_fault IllegalUnit = ILLEGAL_UNIT

-- the last so many tokens go back, none of them kept from being expanded
abbrev pub put_last : ℕ → List Seen → State → State
put_last n seen = put (map (λ x. x.token) (drop (length seen - n) seen))

-- what was decided; a grammar that wanted more behind the end of the text would lack its number, and none does
abbrev pub decided_on : {V : Type 0} → List Seen → Verdict V → Reading V
decided_on seen (Wanting w) = fail MISSING_NUMBER []
decided_on seen (Decided v n) = do
  change (put_last n seen)
  give v
decided_on seen (Faulty f) = fail (scan_fault f) []

-- the end decides as a token that doesn't fit, and isn't put back
abbrev pub without_end : {V : Type 0} → Verdict V → Verdict V
without_end (Wanting w) = Wanting w
without_end (Decided v n) = Decided v (n - 1)
without_end (Faulty f) = Faulty f

-- one more token is looked at, if there is one
abbrev pub scan_token : {V : Type 0} → Calls → Remainder V → List Seen → Option Looked → Reading V
scan_token calls g seen None = decided_on seen (without_end (g (looks seen ++ End ∷ [])))
scan_token calls g seen (Some x) = do
  l ← look calls g seen x.counts
  calls.scan g (seen ++ record { token = x.token; look = l } ∷ [])

abbrev pub scan_next : {V : Type 0} → Calls → Remainder V → List Seen → Bool → Reading V
scan_next calls g seen raw = do
  o ← next_looked calls raw
  scan_token calls g seen o

abbrev pub scan_on : {V : Type 0} → Calls → Remainder V → List Seen → Verdict V → Reading V
scan_on calls g seen (Wanting Raw) = scan_next calls g seen true
scan_on calls g seen (Wanting Expanded) = scan_next calls g seen false
scan_on calls g seen v = decided_on seen v

-- the shortest list that decides, of which those tokens that aren't part go back
abbrev pub scan_by : {V : Type 0} → Calls → Remainder V → List Seen → Reading V
scan_by calls g seen = scan_on calls g seen (g (looks seen))

-- What builtins give

-- there must be a token
abbrev pub needed : {A : Type 0} → Option A → Reading A
needed None = fail FILE_ENDED []
needed (Some x) = give x

-- a quantity as \the writes it, or the tokens themselves
abbrev pub shown : Internal → List Token
shown (Number i) = printed_tokens (signed_decimal i)
shown (Dimension d) = printed_tokens (printed_dimension d)
shown (Glue g) = printed_tokens (printed_glue g)
shown (Tokens list) = list

abbrev pub internal_now : Calls → Token → Reading Internal
internal_now calls t s = internal calls (means s.world t) s

-- the quantity or the list of tokens that begins with the next token
abbrev pub next_internal : Calls → Reading Internal
next_internal calls = do
  o ← expanded calls
  x ← needed o
  internal_now calls x.counts

-- what \the gives
abbrev pub the : Calls → Reading (List Token)
the calls = do
  q ← next_internal calls
  give (shown q)
