-- Only contracts of the code need these: the keys of variables with names by number, and what the code finds of a quantity.
use Rattle.std.specs.Prelude.{◌≡◌, ◌≤◌, ℕ}
use Rattle.std.specs.Char.{IsScalar}
use Rattle.texml_token.specs.Numbers.{Table, tokens_at, TokensWithin}
use Rattle.texml_scope.specs.Shown.{KeyCode}
use Rattle.texml_scope.specs.declared.values.KeyOf.TheVariants as keys
use Rattle.texml_scan.specs.declared.looks.Held.{Held}
use Rattle.texml_scan.specs.declared.looks.Held.TheVariants as held
use Rattle.texml_expand.specs.declared.variables.TheConstants.{LAST_REGISTER}
use Rattle.texml_expand.specs.declared.variables.Variable.{Variable}
use Rattle.texml_expand.specs.declared.variables.Variable.TheVariants.{Cat, Lower, Upper, EscapeChar, EndLineChar, Count, Dimen, Skip, Toks}
use Rattle.texml_expand.specs.declared.variables.Index.{Index}
use Rattle.texml_expand.specs.declared.variables.Index.TheVariants.{Alone, Character, Register}
use Rattle.texml_expand.specs.declared.internal.Internal.{Internal as InternalCode}
use Rattle.texml_expand.specs.declared.internal.Internal.TheVariants as internals
use Rattle.texml_expand.specs.Variables.{index_of, Internal, Number, Dimension, Glue, Tokens}

-- a number is one that comes there
abbrev pub HasNumber : Index → ℕ → Type 0
HasNumber Alone n = Unit {0}
HasNumber Character n = IsScalar n
HasNumber Register n = n ≤ LAST_REGISTER

abbrev pub key_by : Variable → ℕ → KeyCode
key_by Cat n = keys.Cat n
key_by Lower n = keys.Lower n
key_by Upper n = keys.Upper n
key_by EscapeChar n = keys.EscapeChar
key_by EndLineChar n = keys.EndLineChar
key_by Count n = keys.Count n
key_by Dimen n = keys.Dimen n
key_by Skip n = keys.Skip n
key_by Toks n = keys.Toks n

-- a variable of this builtin
pub record Names (v : Variable) (k : KeyCode) : Type 0 where
  pub number : ℕ
  pub fits : HasNumber (index_of v) number
  pub is : k ≡ key_by v number

abbrev pub internal_at : Table → InternalCode → Internal
internal_at texts (internals.Number i) = Number i
internal_at texts (internals.Dimension d) = Dimension d
internal_at texts (internals.Glue g) = Glue g
internal_at texts (internals.Tokens list) = Tokens (tokens_at texts list)

abbrev pub InternalWithin : ℕ → InternalCode → Type 0
InternalWithin count (internals.Number i) = Unit {0}
InternalWithin count (internals.Dimension d) = Unit {0}
InternalWithin count (internals.Glue g) = Unit {0}
InternalWithin count (internals.Tokens list) = TokensWithin count list

abbrev pub held_by : InternalCode → Held
held_by (internals.Number i) = held.Int i
held_by (internals.Dimension d) = held.Dimen d
held_by (internals.Glue g) = held.Glue g
held_by (internals.Tokens list) = held.Nothing
