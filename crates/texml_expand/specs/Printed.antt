-- What \the, \number and \romannumeral write: characters of category 12, but spaces of category 10 (The TeXbook, chapters 15 and 20).
use Rattle.std.specs.Prelude.{ℕ, ℤ, pos, negsuc, ◌/◌, ◌%◌, ◌==◌, ◌++◌, List, [], ◌∷◌, map, replicate, slice_index_or, codes, if◌then◌else◌, unsigned_abs}
use Rattle.texml_token.specs.Token.{Token, Char}
use Rattle.texml_token.specs.declared.category.TheConstants.{SPACE, OTHER}
use Rattle.texml_fixed.specs.declared.scaled.Scaled.{Scaled}
use Rattle.texml_fixed.specs.declared.glue.Order.{Order}
use Rattle.texml_fixed.specs.declared.glue.Order.TheVariants.{Pt, Fil, Fill, Filll}
use Rattle.texml_fixed.specs.declared.glue.Glue.{Glue}
use Rattle.texml_fixed.specs.Printing.{printed}

abbrev pub printed_char : ℕ → Token
printed_char c = if c == 32 then Char c SPACE else Char c OTHER

abbrev pub printed_tokens : List ℕ → List Token
printed_tokens = map printed_char

-- Dimensions and glue

abbrev pub printed_order : Order → List ℕ
printed_order Pt = codes "pt"
printed_order Fil = codes "fil"
printed_order Fill = codes "fill"
printed_order Filll = codes "filll"

-- so many of an order's units
abbrev pub printed_measure : Scaled → Order → List ℕ
printed_measure value order = printed value.0 ++ printed_order order

abbrev pub printed_dimension : Scaled → List ℕ
printed_dimension d = printed_measure d Pt

-- an amount behind its word, unless it is 0
abbrev pub printed_amount : List ℕ → Scaled → Order → List ℕ
printed_amount word value order = if unsigned_abs value.0 == 0 then [] else word ++ printed_measure value order

abbrev pub printed_glue : Glue → List ℕ
printed_glue g = printed_dimension g.width ++ printed_amount (codes " plus ") g.stretch g.stretch_order ++ printed_amount (codes " minus ") g.shrink g.shrink_order

-- Roman numerals

-- a digit, by the letters for 1, 5 and 10
abbrev pub roman_digit : ℕ → ℕ → ℕ → ℕ → List ℕ
roman_digit one five ten d =
    slice_index_or ([] ∷ (one ∷ []) ∷ (one ∷ one ∷ []) ∷ (one ∷ one ∷ one ∷ []) ∷ (one ∷ five ∷ []) ∷ (five ∷ []) ∷ (five ∷ one ∷ []) ∷ (five ∷ one ∷ one ∷ []) ∷ (five ∷ one ∷ one ∷ one ∷ [])
    ∷ (one ∷ ten ∷ []) ∷ []) d []

-- an m for each thousand, and a digit each for hundreds, tens and ones, with the letters c d m, x l c and i v x
abbrev pub roman : ℕ → List ℕ
roman n = replicate (n / 1000) 109 ++ roman_digit 99 100 109 (n / 100 % 10) ++ roman_digit 120 108 99 (n / 10 % 10) ++ roman_digit 105 118 120 (n % 10)

-- a number below 1 has none
abbrev pub roman_text : ℤ → List ℕ
roman_text (pos n) = roman n
roman_text (negsuc n) = []
