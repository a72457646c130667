-- Characters that are written one after the other, in UTF-8.
use Rattle.std.proofs.Common.{◌≡◌, ℕ, List, [], ◌∷◌, ◌++◌, refl, sym, ap, ◌∙◌, append_assoc, encode_utf8_all, map}
use Rattle.std.specs.List.{flat_map}
use Rattle.std.specs.Char.{encode_utf8}
use Rattle.std.proofs.lemmas.Str.{encodes-append}
use Rattle.std.proofs.lemmas.List.Folds.{flat_map-map}
use Rattle.texml_token.specs.Spelling.{name_end, shown_code, shown_name}

pub encodes_each : (cs : List ℕ) → encode_utf8_all cs ≡ flat_map encode_utf8 cs
encodes_each [] = refl
encodes_each (c ∷ cs) = ap (λ bs. encode_utf8 c ++ bs) (encodes_each cs)

pub encodes_flat_map : {X : Type 0} (f : X → List ℕ) (xs : List X) → encode_utf8_all (flat_map f xs) ≡ flat_map (λ x. encode_utf8_all (f x)) xs
encodes_flat_map f [] = refl
encodes_flat_map f (x ∷ xs) = encodes-append (f x) (flat_map f xs) ∙ ap (λ bs. encode_utf8_all (f x) ++ bs) (encodes_flat_map f xs)

pub encodes_flat_map_at : {X Y : Type 0} (f : Y → List ℕ) (at : X → Y) (xs : List X) → encode_utf8_all (flat_map f (map at xs)) ≡ flat_map (λ x. encode_utf8_all (f (at x))) xs
encodes_flat_map_at f at xs = ap encode_utf8_all (flat_map-map f at xs) ∙ encodes_flat_map (λ x. f (at x)) xs

-- a shown name, a piece at a time
pub name_written : (old first all end text : List ℕ) → first ≡ old ++ 92 ∷ [] → all ≡ first ++ flat_map (λ c. encode_utf8_all (shown_code c)) text → end ≡ all ++ encode_utf8_all (name_end text) → end ≡ old ++ encode_utf8_all (shown_name text)
unfolding encode_utf8
name_written old first all end text e f g =
    g ∙ (ap (λ bs. bs ++ encode_utf8_all (name_end text)) (f ∙ ap (λ bs. bs ++ flat_map (λ c. encode_utf8_all (shown_code c)) text) e) ∙
    (ap (λ bs. ((old ++ 92 ∷ []) ++ bs) ++ encode_utf8_all (name_end text)) (sym (encodes_flat_map shown_code text)) ∙
    (append_assoc (old ++ 92 ∷ []) (encode_utf8_all (flat_map shown_code text)) (encode_utf8_all (name_end text)) ∙
    (ap (λ bs. (old ++ 92 ∷ []) ++ bs) (sym (encodes-append (flat_map shown_code text) (name_end text))) ∙
    append_assoc old (92 ∷ []) (encode_utf8_all (flat_map shown_code text ++ name_end text))))))

-- the space after a name is one byte
pub space_written : (text : List ℕ) → name_end text ≡ 32 ∷ [] → 32 ∷ [] ≡ encode_utf8_all (name_end text)
unfolding encode_utf8
space_written text e = sym (ap encode_utf8_all e)
