-- Definitions of macros, and names that are given meanings (The TeXbook, chapter 20).
use Rattle.std.specs.Prelude.{ℕ, Bool, List, [], ◌++◌, Option, None, Some}
use Rattle.std.specs.Option.{option_to_list}
use Rattle.texml_token.specs.Token.{Token}
use Rattle.texml_token.specs.declared.fault_code.TheConstants.{BAD_PARAMETER}
use Rattle.texml_scope.specs.Texts.{Meaning}
use Rattle.texml_scope.specs.Values.{Macro as MacroBy}
use Rattle.texml_scope.specs.declared.values.MeaningOf.TheVariants.{Macro}
use Rattle.texml_expand.specs.State.{Reading, ◌>>=◌, give, fail, change}
use Rattle.texml_expand.specs.Least.{by_least}
use Rattle.texml_expand.specs.Absorb.{absorb}
use Rattle.texml_assign.specs.Loop.{ByDepth}
use Rattle.texml_assign.specs.Operands.{next_key}
use Rattle.texml_assign.specs.Parameters.{Head, text_of, body_of}
use Rattle.texml_assign.specs.Sets.{assign}

-- the parameter text that comes next, with the brace behind it
abbrev pub parameter_text : Reading (Head Token)
parameter_text = by_least text_of

-- the body that tokens are must be one
abbrev pub needed_body : Option (List Token) → Reading (List Token)
needed_body None = fail BAD_PARAMETER []
needed_body (Some body) = give body

abbrev pub body_said : ℕ → List Token → Reading (List Token)
body_said slots list = needed_body (body_of slots list)

-- the body that comes next of a macro with so many parameters, with the brace behind it. Its parameters are found when all of it is read, and
-- expanded where that is asked for
abbrev pub next_body : Bool → ℕ → ByDepth (List Token)
next_body expanding slots n = do
  list ← absorb expanding n
  body_said slots list

-- a macro, long or not. A brace that ends its parameter text stands at the end of its body too
abbrev pub macro_of : {T : Type 0} → Bool → Head T → List T → MacroBy T
macro_of long h body = record { long = long; params = record { default = None; pieces = h.pieces }; body = body ++ option_to_list h.brace }

-- the macro that a definition gives: a parameter text, and a body in braces, which is expanded or not
abbrev pub defined : Bool → Bool → ByDepth Meaning
defined expanding long n = do
  h ← parameter_text
  body ← next_body expanding h.slots n
  give (Macro (macro_of long h body))

-- a name, and the meaning that it has from now on
abbrev pub assigned : Bool → ByDepth Meaning → ByDepth (Unit {0})
assigned global meaning n = do
  k ← next_key
  m ← meaning n
  change (assign global k m)
