-- The values that keys have before anything is set (The TeXbook, chapters 7, 8 and 24).
use Rattle.std.specs.Prelude.{ℕ, ℤ, pos, Bool, List, [], None, if◌then◌else◌, ◌&&◌, ◌||◌, ◌==◌, ◌+◌, ◌-◌, nat_le}
use Rattle.texml_token.specs.declared.category.TheConstants.{ESCAPE, BEGIN_GROUP, END_GROUP, MATH_SHIFT, ALIGNMENT, END_OF_LINE, PARAMETER, SUPERSCRIPT, SUBSCRIPT, IGNORED, SPACE, LETTER, OTHER, ACTIVE, COMMENT, INVALID}
use Rattle.texml_fixed.specs.declared.glue.Glue.{Glue}
use Rattle.texml_fixed.specs.declared.glue.Order.TheVariants as orders
use Rattle.texml_scope.specs.declared.values.KeyOf.{KeyOf}
use Rattle.texml_scope.specs.declared.values.KeyOf.TheVariants.{Name, Active, Cat, Lower, Upper, Count, Dimen, Skip, Toks, EscapeChar, EndLineChar, Counter, Within, CurrentLabel}
use Rattle.texml_scope.specs.declared.values.MeaningOf.TheVariants.{Undefined}
use Rattle.texml_scope.specs.declared.values.ValueOf.TheVariants as values
use Rattle.texml_scope.specs.Values.{Value}

-- the letters A to Z, and a to z
abbrev pub is_upper : ℕ → Bool
is_upper c = nat_le 65 c && nat_le c 90

abbrev pub is_lower : ℕ → Bool
is_lower c = nat_le 97 c && nat_le c 122

-- the characters with a category of their own are code 0, tab, the end of line (code 13), space, # $ % & \ ^ _ { } ~ and code 127
abbrev pub initial_category : ℕ → ℕ
initial_category c =
    if is_upper c || is_lower c then LETTER
    else if c == 92 then ESCAPE
    else if c == 123 then BEGIN_GROUP
    else if c == 125 then END_GROUP
    else if c == 36 then MATH_SHIFT
    else if c == 38 then ALIGNMENT
    else if c == 13 then END_OF_LINE
    else if c == 35 then PARAMETER
    else if c == 94 then SUPERSCRIPT
    else if c == 95 then SUBSCRIPT
    else if c == 0 then IGNORED
    else if c == 32 || c == 9 then SPACE
    else if c == 126 then ACTIVE
    else if c == 37 then COMMENT
    else if c == 127 then INVALID
    else OTHER

-- the other case of a letter is 32 away; a character that is no ASCII letter has no code
abbrev pub initial_lower : ℕ → ℕ
initial_lower c = if is_upper c then c + 32 else if is_lower c then c else 0

abbrev pub initial_upper : ℕ → ℕ
initial_upper c = if is_lower c then c - 32 else if is_upper c then c else 0

abbrev pub no_glue : Glue
no_glue = record { width = record { 0 = pos 0 }; stretch = record { 0 = pos 0 }; stretch_order = orders.Pt; shrink = record { 0 = pos 0 }; shrink_order = orders.Pt }

-- the value of a key that was never set: names mean nothing, the escape character is `\`, and the character at the end of a line is code 13
abbrev pub starting : {N T : Type 0} → KeyOf N → Value N T
starting (Name n) = values.Means Undefined
starting (Active c) = values.Means Undefined
starting (Cat c) = values.Number (pos (initial_category c))
starting (Lower c) = values.Number (pos (initial_lower c))
starting (Upper c) = values.Number (pos (initial_upper c))
starting (Count n) = values.Number (pos 0)
starting (Dimen n) = values.Number (pos 0)
starting (Skip n) = values.Glue no_glue
starting (Toks n) = values.List []
starting EscapeChar = values.Number (pos 92)
starting EndLineChar = values.Number (pos 13)
starting (Counter n) = values.Absent
starting (Within n) = values.Parent None
starting CurrentLabel = values.List []
