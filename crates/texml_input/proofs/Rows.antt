-- The definitions computed on small values.
use Rattle.std.proofs.Common.{◌≡◌, ℕ, ◌==◌, if◌then◌else◌, true, false, negsuc, List, [], ◌∷◌, length, Option, None, Some, refl, codes}
use Rattle.texml_base.specs.Outside.{Shelf}
use Rattle.texml_token.specs.Token.{Char, Active, Param}
use Rattle.texml_token.specs.declared.category.TheConstants.{END_OF_LINE, LETTER, OTHER, INVALID}
use Rattle.texml_token.specs.declared.tokens.Token.TheVariants as tokens
use Rattle.texml_text.specs.Reader.{fresh_reader}
use Rattle.texml_mouth.specs.declared.LineState.TheVariants.{MidLine}
use Rattle.texml_input.specs.Codes.{category_of, character_of}
use Rattle.texml_input.specs.Put.{put, left_of}
use Rattle.texml_input.specs.Rest.{Tok, Frozen, Text, page, start, fresh, size, no_place, end_rests}
use Rattle.texml_input.specs.Searching.{names_tried, first_there}
use Rattle.texml_input.specs.Next.{Got, AtEnd, Invalid, NotUtf8, taken, place_at, next}
use Rattle.texml_input.specs.Held.{Plain, Marked, File, Fence, fresh_file, rest_of, aside_of, ids_of, fences_of, end_first}

-- code 13 ends the line, code 127 is invalid
abbrev pub cats : ℕ → ℕ
cats c = if c == 13 then END_OF_LINE else if c == 127 then INVALID else LETTER

-- files of which nothing is known
abbrev pub silent : Shelf
silent = record { tells = false; contents = λ _. None; ids = []; given = λ _. []; left = λ _. []; number = λ _. 0; total = 0 }

pub no_category_is_other : category_of (Some (negsuc 0)) ≡ OTHER
no_category_is_other = refl

pub no_number_is_no_character : character_of None ≡ None
no_number_is_no_character = refl

pub places_are_replaced : put ((Active 1 ∷ Active 2 ∷ []) ∷ (Active 3 ∷ []) ∷ []) (Param 2 ∷ Active 4 ∷ Param 1 ∷ []) ≡ Active 3 ∷ Active 4 ∷ Active 1 ∷ Active 2 ∷ []
places_are_replaced = refl

pub no_argument_is_empty : put [] (Param 1 ∷ Active 4 ∷ []) ≡ Active 4 ∷ []
no_argument_is_empty = refl

pub rest_of_an_argument_comes_first : left_of ((tokens.Active 1 ∷ tokens.Active 2 ∷ []) ∷ []) (tokens.Param 1 ∷ tokens.Active 3 ∷ []) 1 1 1 ≡ tokens.Active 2 ∷ tokens.Active 3 ∷ []
rest_of_an_argument_comes_first = refl

pub token_comes : next cats None (Tok (Active 1) ∷ []) no_place ≡ Got (taken (Active 1) false) [] no_place 0
token_comes = refl

pub frozen_token_stays_frozen : next cats None (Frozen (Active 1) ∷ []) no_place ≡ Got (taken (Active 1) true) [] no_place 0
frozen_token_stays_frozen = refl

pub line_is_loaded : next cats (Some 13) (Text (fresh (codes "f") (record { text = Some (codes "a "); size = 3 } ∷ [])) ∷ []) no_place
    ≡ Got (taken (Char 97 LETTER) false) (Text (page (codes "f") 1 (record { state = MidLine; tail = 13 ∷ [] }) []) ∷ []) (place_at (codes "f") 1) 3
line_is_loaded = refl

pub text_that_ends_is_crossed : next cats None (Text (fresh (codes "f") (record { text = Some []; size = 1 } ∷ [])) ∷ Tok (Active 1) ∷ []) no_place
    ≡ Got (record { token = Active 1; frozen = false; crossed = true }) [] (place_at (codes "f") 1) 1
text_that_ends_is_crossed = refl

pub line_that_is_no_text : next cats None (Text (fresh (codes "f") (record { text = Some []; size = 1 } ∷ record { text = None; size = 2 } ∷ [])) ∷ []) no_place ≡ NotUtf8 (place_at (codes "f") 2) 3
line_that_is_no_text = refl

pub invalid_character : next cats None (Text (page (codes "f") 4 (start (127 ∷ [])) []) ∷ []) no_place ≡ Invalid 127 no_place 0
invalid_character = refl

pub end_of_nothing : next cats None [] no_place ≡ AtEnd no_place 0
end_of_nothing = refl

pub lines_count_two_more : size (Text (fresh (codes "f") (record { text = Some (codes "ab"); size = 3 } ∷ record { text = None; size = 9 } ∷ [])) ∷ Tok (Active 1) ∷ []) ≡ 8
lines_count_two_more = refl

pub rest_ends_at_a_fence : rest_of silent (Plain (tokens.Active 1) ∷ Marked (tokens.Active 2) ∷ Fence ∷ Plain (tokens.Active 3) ∷ []) ≡ Tok (tokens.Active 1) ∷ Frozen (tokens.Active 2) ∷ []
rest_ends_at_a_fence = refl

pub rests_are_set_aside : aside_of silent (Plain (tokens.Active 1) ∷ Fence ∷ Plain (tokens.Active 2) ∷ Fence ∷ []) ≡ (Tok (tokens.Active 2) ∷ []) ∷ [] ∷ []
rests_are_set_aside = refl

pub ids_are_of_all_files : ids_of (File (fresh_file 7 []) ∷ Fence ∷ File (fresh_file 5 []) ∷ []) ≡ 7 ∷ 5 ∷ []
ids_are_of_all_files = refl

pub fences_are_counted : fences_of (Fence ∷ Plain (tokens.Active 1) ∷ Fence ∷ []) ≡ 2
fences_are_counted = refl

pub first_file_ends : end_first (Plain (tokens.Active 1) ∷ Fence ∷ File (fresh_file 7 []) ∷ File (fresh_file 5 []) ∷ [])
    ≡ Plain (tokens.Active 1) ∷ Fence ∷ File (record { name = []; ended = true; spot = start []; reader = fresh_reader 7 }) ∷ File (fresh_file 5 []) ∷ []
first_file_ends = refl

pub first_text_ends : end_rests ((Tok (Active 1) ∷ []) ∷ (Text (fresh [] (record { text = None; size = 2 } ∷ [])) ∷ []) ∷ (Text (fresh [] (record { text = None; size = 2 } ∷ [])) ∷ []) ∷ [])
    ≡ (Tok (Active 1) ∷ []) ∷ (Text (fresh [] []) ∷ []) ∷ (Text (fresh [] (record { text = None; size = 2 } ∷ [])) ∷ []) ∷ []
first_text_ends = refl

pub name_without_a_dot : names_tried (codes "f") ≡ codes "f.tex" ∷ codes "f" ∷ []
name_without_a_dot = refl

pub name_with_a_dot : names_tried (codes "f.sty") ≡ codes "f.sty" ∷ codes "f.sty.tex" ∷ []
name_with_a_dot = refl

-- a folder that has all names of so many bytes, and no other
abbrev pub of_length : ℕ → List ℕ → Option (List ℕ)
of_length n name = if length name == n then Some [] else None

pub second_name_is_there : first_there (of_length 1) (names_tried (codes "f")) ≡ Some (codes "f")
second_name_is_there = refl

pub no_name_is_there : first_there (of_length 2) (names_tried (codes "f")) ≡ None
no_name_is_there = refl
