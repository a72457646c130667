-- What stands at the front of what is to be read: a token that can be expanded, or one that isn't (The TeXbook, chapter 20).
use Rattle.std.specs.Prelude.{if◌then◌else◌, Option, Some, None}
use Rattle.texml_token.specs.Token.{Token}
use Rattle.texml_token.specs.declared.fault_code.TheConstants.{UNDEFINED}
use Rattle.texml_scope.specs.Texts.{Meaning}
use Rattle.texml_scope.specs.declared.values.MeaningOf.TheVariants.{Undefined}
use Rattle.texml_input.specs.Next.{Taken}
use Rattle.texml_expand.specs.State.{Reading, ◌>>=◌, give, fail}
use Rattle.texml_expand.specs.Take.{take, meaning_of, spelling}
use Rattle.texml_expand.specs.Calls.{Expandable, expandable}

-- what stands at the front: nothing, a token that isn't expanded, or one that is
pub data Front : Type 0 where
  Nothing : Front
  Plain : Taken → Front
  Expands : Token → Expandable → Front

-- a token by what it can be expanded by
abbrev pub front_of : Taken → Option Expandable → Front
front_of t None = Plain t
front_of t (Some e) = Expands t.token e

-- a token by what it means; without a meaning it is fault 1
abbrev pub front_by : Taken → Option Meaning → Reading Front
front_by t (Some Undefined) = fail UNDEFINED (spelling t.token)
front_by t m = give (front_of t (expandable m))

-- a token that is kept from being expanded isn't
abbrev pub front_taken : Option Taken → Reading Front
front_taken None s = give Nothing s
front_taken (Some t) s = (if t.frozen then give (Plain t) else front_by t (meaning_of s.world t.token)) s

-- the front is taken
abbrev pub front : Reading Front
front = do
  t ← take
  front_taken t
