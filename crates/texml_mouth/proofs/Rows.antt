-- The definitions computed on small values.
use Rattle.std.proofs.Common.{◌≡◌, ℕ, [], ◌∷◌, if◌then◌else◌, ◌==◌, refl, codes}
use Rattle.texml_token.specs.Token.{Active, Named}
use Rattle.texml_token.specs.declared.category.TheConstants.{ESCAPE, END_OF_LINE, SUPERSCRIPT, SPACE, LETTER, OTHER, ACTIVE, INVALID}
use Rattle.texml_mouth.specs.declared.LineState.TheVariants.{NewLine, MidLine, SkippingBlanks}
use Rattle.texml_mouth.specs.Looked.{settled}
use Rattle.texml_mouth.specs.Mouth.{Dry, Bad, gives, space, bites}

-- `!` escapes, `|` ends the line, digits are others, code 127 is invalid
abbrev pub cats : ℕ → ℕ
cats c =
    if c == 33 then ESCAPE else if c == 124 then END_OF_LINE else if c == 94 then SUPERSCRIPT else if c == 32 then SPACE
    else if c == 126 then ACTIVE else if c == 127 then INVALID else if c == 49 then OTHER else LETTER

pub hexadecimal_digits : settled cats (codes "^^41b") ≡ codes "Ab"
hexadecimal_digits = refl

pub capital_is_no_digit : settled cats (codes "^^4Ab") ≡ codes "tAb"
capital_is_no_digit = refl

pub looked_at_again : settled cats (codes "^^5e^41b") ≡ codes "Ab"
looked_at_again = refl

pub lone_caret : settled cats (codes "^a^") ≡ codes "^a^"
lone_caret = refl

pub longest_word : bites cats (record { state = NewLine; tail = codes "!ab  1" }) ≡ gives (Named (codes "ab")) SkippingBlanks (codes "  1")
longest_word = refl

pub name_of_one_character : bites cats (record { state = NewLine; tail = codes "!1 a" }) ≡ gives (Named (codes "1")) MidLine (codes " a")
name_of_one_character = refl

pub name_of_space : bites cats (record { state = NewLine; tail = codes "!  a" }) ≡ gives (Named (codes " ")) SkippingBlanks (codes " a")
name_of_space = refl

pub empty_name : bites cats (record { state = MidLine; tail = codes "!" }) ≡ gives (Named []) SkippingBlanks []
empty_name = refl

pub empty_line : bites cats (record { state = NewLine; tail = codes "  |a" }) ≡ gives (Named (codes "par")) NewLine []
empty_line = refl

pub end_of_line_is_space : bites cats (record { state = MidLine; tail = codes "|a" }) ≡ gives space MidLine []
end_of_line_is_space = refl

pub end_behind_blanks_is_nothing : bites cats (record { state = SkippingBlanks; tail = codes " |a" }) ≡ Dry
end_behind_blanks_is_nothing = refl

pub one_space_for_blanks : bites cats (record { state = MidLine; tail = codes "  a" }) ≡ gives space SkippingBlanks (codes " a")
one_space_for_blanks = refl

pub active_character : bites cats (record { state = SkippingBlanks; tail = codes " ~a" }) ≡ gives (Active 126) MidLine (codes "a")
active_character = refl

pub invalid_character : bites cats (record { state = MidLine; tail = 127 ∷ codes "a" }) ≡ Bad 127
invalid_character = refl
