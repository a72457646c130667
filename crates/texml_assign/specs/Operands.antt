-- What commands read behind them, unexpanded (The TeXbook, chapters 20 and 24).
use Rattle.std.specs.Prelude.{◌==◌, ◌&&◌, Bool, false, if◌then◌else◌, [], Option, None, Some}
use Rattle.texml_token.specs.Token.{Token, Char, Active, Named}
use Rattle.texml_token.specs.declared.category.TheConstants.{OTHER}
use Rattle.texml_token.specs.declared.fault_code.TheConstants.{FILE_ENDED, MISPLACED}
use Rattle.texml_scope.specs.Texts.{Key, Meaning}
use Rattle.texml_scope.specs.declared.values.KeyOf.TheVariants.{Name, Active as ActiveKey}
use Rattle.texml_input.specs.Next.{Taken}
use Rattle.texml_expand.specs.State.{State, Reading, ◌>>=◌, give, fail, change}
use Rattle.texml_expand.specs.Expand.{take}
use Rattle.texml_expand.specs.Arguments.{means_space}
use Rattle.texml_assign.specs.Loop.{ByDepth, Next, On, Over, Loop, loops}
use Rattle.texml_expand.specs.Take.{means}

-- Tokens

abbrev pub token_of : Option Taken → Option Token
token_of None = None
token_of (Some t) = Some t.token

-- the next token, or the end
abbrev pub token_or_end : Reading (Option Token)
token_or_end = do
  o ← take
  give (token_of o)

abbrev pub needed : Option Token → Reading Token
needed None = fail FILE_ENDED []
needed (Some t) = give t

-- the next token. There must be one
abbrev pub next_token : Reading Token
next_token = do
  o ← token_or_end
  needed o

-- what a definition may define: a name or an active character. The fixed \relax is no name
abbrev pub key_of : Token → Reading Key
key_of (Active c) = give (ActiveKey c)
key_of (Named t) = give (Name t)
key_of t = fail MISPLACED []

-- the name or active character that comes next
abbrev pub next_key : Reading Key
next_key = do
  t ← next_token
  key_of t

-- Spaces

-- the next token that isn't a space
abbrev pub space_turn : Unit {0} → Token → ByDepth (Next (Unit {0}) Token)
space_turn seen t n s = give (if means_space (means s.world t) then On tt else Over t) s

abbrev pub spaces_loop : Loop (Unit {0}) Token
spaces_loop = record { source = λ n. token_or_end; turn = space_turn; end = λ seen. fail FILE_ENDED [] }

abbrev pub behind_spaces : ByDepth Token
behind_spaces = loops spaces_loop tt

-- the character = of category 12
abbrev pub is_equals : Token → Bool
is_equals (Char c category) = c == 61 && category == OTHER
is_equals t = false

-- this token, or where it is a space the next one
abbrev pub behind_space : Token → Reading Token
behind_space t s = (if means_space (means s.world t) then next_token else give t) s

abbrev pub behind_sign : Reading Token
behind_sign = do
  t ← next_token
  behind_space t

-- this token, or where it is an equals sign the one behind it and one space
abbrev pub behind_equals : Token → Reading Token
behind_equals t = if is_equals t then behind_sign else give t

abbrev pub meaning_now : Token → Reading Meaning
meaning_now t s = give (means s.world t) s

-- the meaning of a token behind spaces, an equals sign and one space, each of which may be missing
abbrev pub meant : ByDepth Meaning
meant n = do
  t ← behind_spaces n
  u ← behind_equals t
  meaning_now u

-- a token, which changes something
abbrev pub with_token : (Token → State → State) → Reading (Unit {0})
with_token f = do
  t ← next_token
  change (f t)
