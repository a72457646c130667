-- How the characters of a text are looked at: groups of carets (The TeXbook, chapters 7 and 8).
use Rattle.std.specs.Prelude.{ℕ, ◌+◌, ◌-◌, ◌*◌, Bool, false, List, [], ◌∷◌, if◌then◌else◌, nat_lt, nat_le, ◌==◌, ◌&&◌, ◌||◌}
use Rattle.texml_token.specs.declared.category.TheConstants.{SUPERSCRIPT}

-- a hexadecimal digit: 0 to 9, or a small letter from a to f
abbrev pub is_hex_digit : ℕ → Bool
is_hex_digit x = (nat_le 48 x && nat_le x 57) || (nat_le 97 x && nat_le x 102)

abbrev pub hex_value : ℕ → ℕ
hex_value x = if nat_lt x 58 then x - 48 else x - 87

-- the character that two hexadecimal digits stand for
abbrev pub hex_code : ℕ → ℕ → ℕ
hex_code x y = 16 * hex_value x + hex_value y

-- the character that one character below 128 stands for: its code is greater or less by 64
abbrev pub turned : ℕ → ℕ
turned x = if nat_lt x 64 then x + 64 else x - 64

-- two hexadecimal digits begin a text
abbrev pub begins_hex : List ℕ → Bool
begins_hex [] = false
begins_hex (x ∷ []) = false
begins_hex (x ∷ y ∷ tail) = is_hex_digit x && is_hex_digit y

-- a group of carets begins with a character of category 7 that stands twice
abbrev pub is_pair : (ℕ → ℕ) → ℕ → ℕ → Bool
is_pair cats c d = cats c == SUPERSCRIPT && d == c

-- a fold over the text that c begins, each character as it is looked at: a group of carets at the front is replaced by what it stands for, which is looked at again
abbrev pub look_at : {A : Type 0} → (ℕ → ℕ) → A → (ℕ → List ℕ → A → A) → ℕ → List ℕ → A
look_at cats empty step c [] = step c [] empty
look_at cats empty step c (d ∷ []) = step c (d ∷ []) (look_at cats empty step d [])
look_at cats empty step c (d ∷ x ∷ []) =
    if is_pair cats c d && nat_lt x 128 then look_at cats empty step (turned x) []
    else step c (d ∷ x ∷ []) (look_at cats empty step d (x ∷ []))
look_at cats empty step c (d ∷ x ∷ y ∷ tail) =
    if is_pair cats c d && begins_hex (x ∷ y ∷ tail) then look_at cats empty step (hex_code x y) tail
    else if is_pair cats c d && nat_lt x 128 then look_at cats empty step (turned x) (y ∷ tail)
    else step c (d ∷ x ∷ y ∷ tail) (look_at cats empty step d (x ∷ y ∷ tail))

-- the same fold over any text: what it is of no character, and what it is of a character, the text behind it, and the fold of that text
abbrev pub look : {A : Type 0} → (ℕ → ℕ) → A → (ℕ → List ℕ → A → A) → List ℕ → A
look cats empty step [] = empty
look cats empty step (c ∷ tail) = look_at cats empty step c tail

-- a text with its first character written as it is looked at
abbrev pub settled : (ℕ → ℕ) → List ℕ → List ℕ
settled cats = look cats [] (λ c tail onward. c ∷ tail)
