-- The definitions computed on small values.
use Rattle.std.proofs.Common.{◌≡◌, ◌++◌, [], ◌∷◌, None, Some, Err, pos, negsuc, false, refl, codes}
use Rattle.std.specs.Str.{chars, is_utf8}
use Rattle.texml_text.specs.Lines.{trim_end, loaded}
use Rattle.texml_text.specs.File.{rows, rows_of_rest, character}
use Rattle.texml_text.specs.Reader.{past_line, weight, number_after}
use Rattle.texml_text.specs.declared.reader.LineFault.TheVariants.{NotUtf8, Failed}

pub spaces_at_end_go : trim_end (codes " a b  ") ≡ codes " a b"
spaces_at_end_go = refl

pub tab_stays : trim_end (97 ∷ 9 ∷ 32 ∷ []) ≡ 97 ∷ 9 ∷ []
tab_stays = refl

pub end_character_is_added : loaded (Some 13) (codes "  ") ≡ 13 ∷ []
end_character_is_added = refl

pub no_end_character : loaded None (codes "a ") ≡ codes "a"
no_end_character = refl

-- of a file

pub lines_of_a_file : rows (codes "a" ++ 13 ∷ 10 ∷ 10 ∷ codes "bc")
    ≡ record { text = Some (codes "a"); size = 3 } ∷ record { text = Some []; size = 1 } ∷ record { text = Some (codes "bc"); size = 2 } ∷ []
unfolding chars is_utf8 lib.Utf8.encode
lines_of_a_file = refl

pub mark_goes_with_the_first_line : rows (0xEF ∷ 0xBB ∷ 0xBF ∷ 97 ∷ 10 ∷ 98 ∷ []) ≡ record { text = Some (codes "a"); size = 5 } ∷ record { text = Some (codes "b"); size = 1 } ∷ []
unfolding chars is_utf8 lib.Utf8.encode
mark_goes_with_the_first_line = refl

pub mark_alone_is_no_line : rows (0xEF ∷ 0xBB ∷ 0xBF ∷ []) ≡ []
mark_alone_is_no_line = refl

pub mark_stays_in_the_rest : rows_of_rest false (0xEF ∷ 0xBB ∷ 0xBF ∷ []) ≡ record { text = Some (0xFEFF ∷ []); size = 3 } ∷ []
unfolding chars is_utf8 lib.Utf8.encode
mark_stays_in_the_rest = refl

pub one_line_is_not_text : rows (0xFF ∷ 10 ∷ 97 ∷ []) ≡ record { text = None; size = 2 } ∷ record { text = Some (codes "a"); size = 1 } ∷ []
unfolding chars is_utf8 lib.Utf8.encode
one_line_is_not_text = refl

pub return_is_a_character : character (pos 13) ≡ Some 13
return_is_a_character = refl

pub surrogate_is_none : character (pos 0xD800) ≡ None
surrogate_is_none = refl

pub negative_is_none : character (negsuc 0) ≡ None
negative_is_none = refl

pub bytes_past_a_line : past_line (97 ∷ 10 ∷ 98 ∷ 10 ∷ []) ≡ 2
bytes_past_a_line = refl

pub bad_line_counts : number_after (Err NotUtf8) 6 ≡ 7
bad_line_counts = refl

pub failed_line_does_not : number_after (Err Failed) 6 ≡ 6
failed_line_does_not = refl

pub line_weighs_one_more : weight (Some (codes "ab")) ≡ 3
line_weighs_one_more = refl
