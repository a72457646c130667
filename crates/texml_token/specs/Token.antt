-- Tokens (The TeXbook, chapter 7). A name is its text.
use Rattle.std.specs.Prelude.{ℕ, List, Bool, true, false, nat_eq, ◌&&◌, ◌==◌, codes}
use Rattle.std.specs.Cmp.Lexicographic.{pointwise}

-- a character with its category, an active character, the place of a parameter in the body of a macro, a name, or
-- the fixed \relax, whose meaning nothing changes and which isn't the name with the text `relax`
pub data Token : Type 0 where
  Char : ℕ → ℕ → Token
  Active : ℕ → Token
  Param : ℕ → Token
  Named : List ℕ → Token
  Fixed : Token

-- a character of this category
abbrev pub has_category : ℕ → Token → Bool
has_category category (Char c k) = k == category
has_category category t = false

-- the name of a new paragraph
abbrev pub paragraph : Token
paragraph = Named (codes "par")

-- the text of the fixed \relax
abbrev pub relax : List ℕ
relax = codes "relax"

abbrev pub text_eq : List ℕ → List ℕ → Bool
text_eq = pointwise nat_eq

abbrev pub token_eq : Token → Token → Bool
token_eq (Char c k) (Char d l) = nat_eq c d && nat_eq k l
token_eq (Active c) (Active d) = nat_eq c d
token_eq (Param m) (Param n) = nat_eq m n
token_eq (Named s) (Named t) = text_eq s t
token_eq Fixed Fixed = true
token_eq t u = false
