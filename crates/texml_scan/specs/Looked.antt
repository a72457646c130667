-- Tokens as they are looked at: with their meaning, and with what is held for them.
use Rattle.std.specs.Prelude.{ℕ, Bool, true, false, List, [], ◌∷◌, Option, Some, None, nat_eq, if◌then◌else◌}
use Rattle.std.specs.List.{list_any}
use Rattle.texml_token.specs.Token.{Token, Char, Active, Param, Named, Fixed}
use Rattle.texml_scope.specs.declared.builtins.TheConstants.{CATCODE, LCCODE, UCCODE, ESCAPECHAR, ENDLINECHAR, COUNT, DIMEN, SKIP, VALUE}
use Rattle.texml_scope.specs.declared.values.KeyOf.{KeyOf}
use Rattle.texml_scope.specs.declared.values.KeyOf.TheVariants.{Toks}
use Rattle.texml_scope.specs.declared.values.MeaningOf.{MeaningOf}
use Rattle.texml_scope.specs.declared.values.MeaningOf.TheVariants as meaning
use Rattle.texml_scan.specs.declared.looks.Held.{Held}
use Rattle.texml_scan.specs.declared.looks.Held.TheVariants as held
use Rattle.texml_scan.specs.declared.looks.Look.{Look}
use Rattle.texml_scan.specs.declared.looks.Look.TheVariants.{Character, Other}
use Rattle.texml_scan.specs.declared.looks.Quantity.{Quantity}
use Rattle.texml_scan.specs.declared.looks.Quantity.TheVariants.{Plain, Unread, Int, Dimen, Glue}

-- the builtins that begin an internal quantity
abbrev pub quantities : List ℕ
quantities = CATCODE ∷ LCCODE ∷ UCCODE ∷ ESCAPECHAR ∷ ENDLINECHAR ∷ COUNT ∷ DIMEN ∷ SKIP ∷ VALUE ∷ []

-- a register, but a list of tokens is no quantity
abbrev pub is_quantity : {N : Type 0} → KeyOf N → Bool
is_quantity (Toks n) = false
is_quantity k = true

-- a meaning begins an internal number, dimension or glue
abbrev pub begins_quantity : {N M : Type 0} → MeaningOf N M → Bool
begins_quantity (meaning.Number n) = true
begins_quantity (meaning.Quantity k) = is_quantity k
begins_quantity (meaning.Builtin place) = list_any (nat_eq place) quantities
begins_quantity m = false

-- what is held, or whether a meaning begins a quantity
abbrev pub quantity_of : {N M : Type 0} → MeaningOf N M → Held → Quantity
quantity_of m held.Nothing = if begins_quantity m then Unread else Plain
quantity_of m (held.Int i) = Int i
quantity_of m (held.Dimen d) = Dimen d
quantity_of m (held.Glue g) = Glue g

-- the character of a text that has just one
abbrev pub one_character : List ℕ → Option ℕ
one_character [] = None
one_character (c ∷ []) = Some c
one_character (c ∷ d ∷ cs) = None

-- a backquote gives the code of an active character, and that of a name of one character
abbrev pub look_of : {N M : Type 0} → Token → MeaningOf N M → Held → Look
look_of (Char c category) m h = Character c category
look_of (Active c) m h = Other (Some c) (quantity_of m h)
look_of (Param n) m h = Other None (quantity_of m h)
look_of (Named text) m h = Other (one_character text) (quantity_of m h)
look_of Fixed m h = Other None (quantity_of m h)
