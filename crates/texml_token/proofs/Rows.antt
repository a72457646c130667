-- The definitions computed on small values.
use Rattle.std.proofs.Common.{◌≡◌, ◌++◌, pos, negsuc, [], ◌∷◌, false, refl, codes, arith}
use Rattle.texml_token.specs.Token.{Token, Char, Active, Param, Named, token_eq}
use Rattle.texml_token.specs.Pieces.{Just, Slot, AreNumberedFrom, slots_in}
use Rattle.texml_token.specs.Numbers.{Table, text_at, number_of, with_text, name_at, pieces_at, IsCharCategory}
use Rattle.texml_token.specs.declared.tokens.Token.TheVariants as tokens
use Rattle.texml_token.specs.Spelling.{spelled, shown}

-- a table in which the text `relax` was used second
abbrev pub two : Table
two = codes "foo" ∷ codes "relax" ∷ []

abbrev pub foo : Token
foo = Named (codes "foo")

pub numbered_by_first_use : number_of two (codes "relax") ≡ 2
numbered_by_first_use = refl

pub number_past_the_table : number_of two (codes "a") ≡ 3
number_past_the_table = refl

pub text_of_number : text_at two 1 ≡ codes "foo"
text_of_number = refl

pub text_of_fixed : text_at two 0 ≡ codes "relax"
text_of_fixed = refl

pub known_text_adds_nothing : with_text two (codes "foo") ≡ two
known_text_adds_nothing = refl

pub new_text_is_last : with_text two (codes "a") ≡ codes "foo" ∷ codes "relax" ∷ codes "a" ∷ []
new_text_is_last = refl

pub fixed_is_another_name : token_eq (name_at two 0) (name_at two 2) ≡ false
fixed_is_another_name = refl

pub category_tells_apart : token_eq (Char 97 11) (Char 97 12) ≡ false
category_tells_apart = refl

pub active_is_no_character : token_eq (Active 126) (Char 126 12) ≡ false
active_is_no_character = refl

pub spelled_with_escape : spelled (pos 92) foo ≡ 92 ∷ codes "foo"
spelled_with_escape = refl

pub spelled_without_escape : spelled (negsuc 0) foo ≡ codes "foo"
spelled_without_escape = refl

pub spelled_with_surrogate : spelled (pos 55296) foo ≡ codes "foo"
spelled_with_surrogate = refl

pub spelled_empty_name : spelled (pos 33) (Named []) ≡ codes "!csname!endcsname"
spelled_empty_name = refl

-- \a b\%b^^M^^?\foo b
pub shown_list : shown (Named (codes "a") ∷ Char 98 11 ∷ Named (codes "%") ∷ Char 98 11 ∷ Char 13 12 ∷ Active 127 ∷ foo ∷ Char 98 11 ∷ [])
    ≡ 92 ∷ codes "a b" ++ 92 ∷ codes "%b^^M^^?" ++ 92 ∷ codes "foo b"
shown_list = refl

pub space_is_a_category : IsCharCategory 10
space_is_a_category = (omega arith, omega arith, (λ e. omega (arith, e)), (λ e. omega (arith, e)))

pub end_of_line_is_none : IsCharCategory 5 → ⊥
end_of_line_is_none h = h.2 refl

-- the parameter text #1\relax #2
pub pieces_by_texts : pieces_at two (Slot 1 ∷ Just (tokens.Named (record { 0 = 2 })) ∷ Slot 2 ∷ []) ≡ Slot 1 ∷ Just (Named (codes "relax")) ∷ Slot 2 ∷ []
pieces_by_texts = refl

pub two_parameters : slots_in (Slot 1 ∷ Just (Char 46 12) ∷ Slot 2 ∷ []) ≡ 2
two_parameters = refl

pub numbered_in_order : AreNumberedFrom 1 (Slot 1 ∷ Just (Char 46 12) ∷ Slot 2 ∷ [])
numbered_in_order = (refl, (refl, tt))

pub shown_place : shown (Param 2 ∷ []) ≡ codes "#2"
shown_place = refl
