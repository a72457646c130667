-- Variables: what commands set and quantities are read from, by the builtins that name them (The TeXbook, chapters 15 and 24).
use Rattle.std.specs.Prelude.{ℕ, ℤ, pos, negsuc, Bool, nat_le, ◌==◌, if◌then◌else◌, [], List, Option, Some, None}
use lib.Utf8.{scalar}
use Rattle.texml_token.specs.Token.{Token}
use Rattle.texml_token.specs.declared.fault_code.TheConstants.{BAD_CODE}
use Rattle.texml_scope.specs.Texts.{Key, Value}
use Rattle.texml_scope.specs.declared.builtins.TheConstants.{CATCODE, LCCODE, UCCODE, ESCAPECHAR, ENDLINECHAR, COUNT, DIMEN, SKIP, TOKS}
use Rattle.texml_scope.specs.declared.values.KeyOf.TheVariants as keys
use Rattle.texml_scope.specs.declared.values.ValueOf.TheVariants as values
use Rattle.texml_fixed.specs.declared.scaled.Scaled.{Scaled}
use Rattle.texml_fixed.specs.declared.glue.Glue.{Glue as GlueValue}
use Rattle.texml_expand.specs.declared.variables.TheConstants.{LAST_REGISTER}
use Rattle.texml_expand.specs.declared.variables.Variable.{Variable}
use Rattle.texml_expand.specs.declared.variables.Variable.TheVariants.{Cat, Lower, Upper, EscapeChar, EndLineChar, Count, Dimen, Skip, Toks}
use Rattle.texml_expand.specs.declared.variables.Index.{Index}
use Rattle.texml_expand.specs.declared.variables.Index.TheVariants.{Alone, Character, Register}
use Rattle.texml_expand.specs.State.{Reading, give, fail}

-- the variables that the builtin of a place names, if it does
abbrev pub variable_at : ℕ → Option Variable
variable_at place =
    if place == CATCODE then Some Cat
    else if place == LCCODE then Some Lower
    else if place == UCCODE then Some Upper
    else if place == ESCAPECHAR then Some EscapeChar
    else if place == ENDLINECHAR then Some EndLineChar
    else if place == COUNT then Some Count
    else if place == DIMEN then Some Dimen
    else if place == SKIP then Some Skip
    else if place == TOKS then Some Toks
    else None

-- what comes behind the builtin: the number of a character, that of a register, or none
abbrev pub index_of : Variable → Index
index_of Cat = Character
index_of Lower = Character
index_of Upper = Character
index_of EscapeChar = Alone
index_of EndLineChar = Alone
index_of Count = Register
index_of Dimen = Register
index_of Skip = Register
index_of Toks = Register

-- the variable of this number
abbrev pub key_of : Variable → ℕ → Key
key_of Cat n = keys.Cat n
key_of Lower n = keys.Lower n
key_of Upper n = keys.Upper n
key_of EscapeChar n = keys.EscapeChar
key_of EndLineChar n = keys.EndLineChar
key_of Count n = keys.Count n
key_of Dimen n = keys.Dimen n
key_of Skip n = keys.Skip n
key_of Toks n = keys.Toks n

-- a number is one of these, or else fault 11
abbrev pub among : (ℕ → Bool) → ℤ → Reading ℕ
among fits (pos n) = if fits n then give n else fail BAD_CODE []
among fits (negsuc n) = fail BAD_CODE []

abbrev pub a_character : ℤ → Reading ℕ
a_character = among scalar

abbrev pub a_register : ℤ → Reading ℕ
a_register = among (λ n. nat_le n LAST_REGISTER)

-- an internal quantity, or a list of tokens
pub data Internal : Type 0 where
  Number : ℤ → Internal
  Dimension : Scaled → Internal
  Glue : GlueValue → Internal
  Tokens : List Token → Internal

-- what the value of a variable is. Each value is of its key's kind, so that no others come
abbrev pub internal_in : Key → Value → Internal
internal_in (keys.Dimen n) (values.Number z) = Dimension (record { 0 = z })
internal_in k (values.Number z) = Number z
internal_in k (values.Glue g) = Glue g
internal_in k (values.List list) = Tokens list
internal_in k v = Tokens []

abbrev pub value_of : Key → Reading Internal
value_of k s = give (internal_in k (s.world.top k)) s
