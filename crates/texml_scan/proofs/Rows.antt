-- The grammars on small texts.
use Rattle.std.proofs.Common.{◌≡◌, ℕ, pos, negsuc, true, false, Some, None, List, [], ◌∷◌, ◌++◌, map, refl, codes, ◌==◌, ◌&&◌, ◌||◌, if◌then◌else◌, nat_le}
use Rattle.texml_fixed.specs.declared.scaled.Scaled.{Scaled}
use Rattle.texml_fixed.specs.declared.glue.Order.TheVariants.{Pt, Fil, Fill}
use Rattle.texml_fixed.specs.Glue.{glue_of}
use Rattle.texml_scan.specs.declared.looks.Look.{Look}
use Rattle.texml_scan.specs.declared.looks.Look.TheVariants.{End, Character, Other}
use Rattle.texml_scan.specs.declared.looks.Quantity.TheVariants as quantity
use Rattle.texml_scan.specs.declared.steps.ScanFault.TheVariants.{MissingNumber, TooBig, TooLarge, IllegalUnit}
use Rattle.texml_token.specs.Token.{Active, Named, Fixed}
use Rattle.texml_scope.specs.declared.builtins.TheConstants.{SKIP}
use Rattle.texml_scope.specs.declared.values.KeyOf.TheVariants.{Toks}
use Rattle.texml_scope.specs.declared.values.MeaningOf.TheVariants as meaning
use Rattle.texml_scan.specs.declared.looks.Held.TheVariants as held
use Rattle.texml_scan.specs.Looked.{look_of}
use Rattle.texml_scan.specs.Grammar.{Wanting, Decided, Faulty, Raw, Expanded, Asked, verdict}
use Rattle.texml_scan.specs.Number.{number}
use Rattle.texml_scan.specs.Keyword.{keyword}
use Rattle.texml_scan.specs.Measure.{dimension, amount}
use Rattle.texml_scan.specs.Glue.{glue, nothing}

-- a text as looks: spaces, letters and other characters
abbrev pub typed : List ℕ → List Look
typed = map (λ c. Character c (if c == 32 then 10 else if nat_le 65 c && nat_le c 90 || nat_le 97 c && nat_le c 122 then 11 else 12))

abbrev pub sp : ℕ → Scaled
sp n = record { 0 = pos n }

-- ---- looks

name_of_one_character : look_of {N = ℕ} {M = ℕ} (Named (codes "%")) meaning.Undefined held.Nothing ≡ Other (Some 37) quantity.Plain
name_of_one_character = refl

-- the fixed name is no name of one character, whatever it means
fixed_name : look_of {N = ℕ} {M = ℕ} Fixed (meaning.Number 65) held.Nothing ≡ Other None quantity.Unread
fixed_name = refl

register_is_asked_for : look_of {N = ℕ} {M = ℕ} (Named (codes "skip")) (meaning.Builtin SKIP) held.Nothing ≡ Other None quantity.Unread
register_is_asked_for = refl

list_is_no_quantity : look_of {N = ℕ} {M = ℕ} (Active 126) (meaning.Quantity (Toks 7)) held.Nothing ≡ Other (Some 126) quantity.Plain
list_is_no_quantity = refl

-- ---- numbers

signs_and_space : verdict (number (typed (codes "- -+-12 "))) ≡ Decided (negsuc 11) 0
signs_and_space = refl

letter_goes_back : verdict (number (typed (codes "12x"))) ≡ Decided (pos 12) 1
letter_goes_back = refl

more_digits_may_come : verdict (number (typed (codes "12"))) ≡ Wanting Expanded
more_digits_may_come = refl

end_decides : verdict (number (typed (codes "12") ++ End ∷ [])) ≡ Decided (pos 12) 1
end_decides = refl

hexadecimal : verdict (number (Character 34 12 ∷ typed (codes "1F "))) ≡ Decided (pos 31) 0
hexadecimal = refl

small_letter_is_no_digit : verdict (number (Character 34 12 ∷ typed (codes "1f"))) ≡ Decided (pos 1) 1
small_letter_is_no_digit = refl

nine_is_not_octal : verdict (number (typed (codes "'19"))) ≡ Decided (pos 1) 1
nine_is_not_octal = refl

backquote_wants_raw : verdict (number (typed (codes "`"))) ≡ Wanting Raw
backquote_wants_raw = refl

backquote_and_name : verdict (number (typed (codes "`") ++ Other (Some 37) quantity.Plain ∷ typed (codes " "))) ≡ Decided (pos 37) 0
backquote_and_name = refl

backquote_and_long_name : verdict (number (typed (codes "`") ++ Other None quantity.Plain ∷ [])) ≡ Faulty MissingNumber
backquote_and_long_name = refl

backquote_and_end : verdict (number (typed (codes "`") ++ End ∷ [])) ≡ Faulty MissingNumber
backquote_and_end = refl

no_number : verdict (number (typed (codes "- x"))) ≡ Faulty MissingNumber
no_number = refl

quantity_is_asked_for : verdict (number (typed (codes "-") ++ Other None quantity.Unread ∷ [])) ≡ Wanting Asked
quantity_is_asked_for = refl

-- an internal quantity takes no space
quantity_is_taken : verdict (number (typed (codes "-") ++ Other None (quantity.Dimen (sp 7)) ∷ typed (codes " "))) ≡ Decided (negsuc 6) 1
quantity_is_taken = refl

greatest_number : verdict (number (typed (codes "2147483647;"))) ≡ Decided (pos 2147483647) 1
greatest_number = refl

number_too_big : verdict (number (typed (codes "2147483648"))) ≡ Faulty TooBig
number_too_big = refl

-- ---- keywords

keyword_in_either_case : verdict (keyword (codes "plus") (typed (codes "  pLus"))) ≡ Decided true 0
keyword_in_either_case = refl

keyword_breaks_off : verdict (keyword (codes "plus") (typed (codes " plx"))) ≡ Decided false 3
keyword_breaks_off = refl

keyword_and_end : verdict (keyword (codes "plus") (typed (codes "pl") ++ End ∷ [])) ≡ Decided false 3
keyword_and_end = refl

-- ---- dimensions

two_points : verdict (dimension (typed (codes "2pt "))) ≡ Decided (sp 131072) 0
two_points = refl

comma_and_inches : verdict (dimension (typed (codes "-2,75 IN;"))) ≡ Decided (record { 0 = negsuc 13024787 }) 1
comma_and_inches = refl

true_points : verdict (dimension (typed (codes "2 true pTx"))) ≡ Decided (sp 131072) 1
true_points = refl

no_digits_at_all : verdict (dimension (typed (codes ".pt "))) ≡ Decided (sp 0) 0
no_digits_at_all = refl

hexadecimal_factor : verdict (dimension (Character 34 12 ∷ typed (codes "A pt "))) ≡ Decided (sp 655360) 0
hexadecimal_factor = refl

-- a number and a dimension as its unit, which takes no space
own_unit : verdict (dimension (typed (codes "-1.5") ++ Other None (quantity.Dimen (record { 0 = negsuc 2 })) ∷ typed (codes " "))) ≡ Decided (sp 4) 1
own_unit = refl

no_unit : verdict (dimension (typed (codes "2x"))) ≡ Faulty IllegalUnit
no_unit = refl

no_em_behind_true : verdict (dimension (typed (codes "2 true e"))) ≡ Faulty IllegalUnit
no_em_behind_true = refl

unit_may_come : verdict (dimension (typed (codes "2 p"))) ≡ Wanting Expanded
unit_may_come = refl

too_large_without_a_space : verdict (dimension (typed (codes "16384pt"))) ≡ Faulty TooLarge
too_large_without_a_space = refl

no_fil : verdict (dimension (typed (codes "1f"))) ≡ Faulty IllegalUnit
no_fil = refl

-- ---- glue

stretch_and_shrink : verdict (glue (typed (codes "1pt plus -2fil l minus 1sp "))) ≡
    Decided (glue_of (sp 65536) (amount (record { 0 = negsuc 131071 }) Fill) (amount (sp 1) Pt)) 0
stretch_and_shrink = refl

plus_breaks_off : verdict (glue (typed (codes "1pt plx"))) ≡ Decided (glue_of (sp 65536) nothing nothing) 3
plus_breaks_off = refl

shrink_alone : verdict (glue (typed (codes "1pt minus 1fil;"))) ≡ Decided (glue_of (sp 65536) nothing (amount (sp 65536) Fil)) 1
shrink_alone = refl

fourth_l : verdict (glue (typed (codes "1pt plus 1fillll"))) ≡ Faulty IllegalUnit
fourth_l = refl

internal_glue_turns : verdict (glue (typed (codes "-") ++ Other None (quantity.Glue (glue_of (sp 3) (amount (sp 2) Fil) nothing)) ∷ [])) ≡
    Decided (glue_of (record { 0 = negsuc 2 }) (amount (record { 0 = negsuc 1 }) Fil) nothing) 0
internal_glue_turns = refl
