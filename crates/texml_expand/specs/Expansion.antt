-- What commands of expansion give: \expandafter, \noexpand, \string and \jobname (The TeXbook, chapter 20).
use Rattle.std.specs.Prelude.{ℕ, ℤ, negsuc, ◌==◌, ◌-◌, List, [], ◌∷◌, ◌++◌, codes, length, take as first, nat_eq, if◌then◌else◌, fold}
use Rattle.std.specs.Option.{unwrap_or}
use Rattle.std.specs.List.{ends_with}
use Rattle.std.specs.Str.{chars}
use Rattle.texml_token.specs.Token.{Token}
use Rattle.texml_token.specs.declared.fault_code.TheConstants.{FILE_ENDED}
use Rattle.texml_token.specs.Spelling.{spelled}
use Rattle.texml_scope.specs.declared.values.KeyOf.TheVariants.{EscapeChar}
use Rattle.texml_scope.specs.Values.{number_in}
use Rattle.texml_scope.specs.Texts.{World}
use Rattle.texml_expand.specs.State.{Reading, ◌>>=◌, ◌>>◌, give, fail}
use Rattle.texml_expand.specs.Take.{take}
use Rattle.texml_expand.specs.Printed.{printed_tokens}
use Rattle.texml_expand.specs.Calls.{Gift, Puts, Freezes, Calls}
use Rattle.texml_expand.specs.Quantities.{needed}
use Rattle.texml_expand.specs.Front.{Front, Nothing, Plain, Expands, front}

-- tokens that are read go back
abbrev pub puts : Reading (List Token) → Reading Gift
puts reading = do
  list ← reading
  give (Puts list)

-- the next token as it stands; there must be one
abbrev pub one_token : Reading Token
one_token = do
  o ← take
  t ← needed o
  give t.token

-- behind the first token of \expandafter, the second is expanded once, if it can be
abbrev pub behind_first : Calls → Token → Front → Reading Gift
behind_first calls first Nothing = fail FILE_ENDED []
behind_first calls first (Plain second) = give (Puts (first ∷ second.token ∷ []))
behind_first calls first (Expands second e) = do
  calls.expand second e
  give (Puts (first ∷ []))

abbrev pub expand_after : Calls → Reading Gift
expand_after calls = do
  first ← one_token
  second ← front
  behind_first calls first second

-- \noexpand gives the next token, kept from being expanded
abbrev pub no_expand : Reading Gift
no_expand = do
  t ← one_token
  give (Freezes t)

-- the number of the escape character
abbrev pub escape_of : World → ℤ
escape_of w = unwrap_or (number_in (w.top EscapeChar)) (negsuc 0)

abbrev pub spelled_now : Token → Reading (List Token)
spelled_now t s = give (printed_tokens (spelled (escape_of s.world) t)) s

-- \string gives the characters of the next token
abbrev pub string : Reading (List Token)
string = do
  t ← one_token
  spelled_now t

-- what stands behind the last / of a text
abbrev pub behind_slash : List ℕ → ℕ → List ℕ
behind_slash text c = if c == 47 then [] else text ++ c ∷ []

abbrev pub last_part : List ℕ → List ℕ
last_part = fold behind_slash []

-- a text without this end, where it has it
abbrev pub without_end : List ℕ → List ℕ → List ℕ
without_end end text = if ends_with nat_eq text end then first (length text - length end) text else text

-- the name of the job, by the name of the main file
abbrev pub job_name : List ℕ → List ℕ
job_name name = without_end (codes ".tex") (last_part name)

-- \jobname gives its characters
abbrev pub job : Reading (List Token)
job s = give (printed_tokens (job_name (chars s.job))) s
