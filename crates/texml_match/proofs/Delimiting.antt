-- A list before its delimiter, by number and by text.
use Rattle.std.proofs.Common.{◌≡◌, ◌-◌, ◌≤◌, ℕ, Bool, true, false, cond, if◌then◌else◌, ◌&&◌, List, [], ◌∷◌, ◌++◌, length, take, drop, map, Option, None, Some, refl, sym, ap, ap₂, ◌∙◌, subst, arith}
use Rattle.std.specs.Cmp.Lexicographic.{pointwise}
use Rattle.std.specs.List.{All, ends_with}
use Rattle.std.proofs.lemmas.List.{length-map, drop-map, take-map, take-append-drop, map-append}
use Rattle.std.proofs.lemmas.List.Elements.{All-head, All-tail, All-drop, All-take}
use Rattle.texml_token.specs.Token.{Token, token_eq}
use Rattle.texml_token.specs.declared.tokens.Token.{Token as TokenCode}
use Rattle.texml_token.specs.Numbers.{Table, Numbered, token_at, tokens_at, TokenWithin, TokensWithin}
use Rattle.texml_token.specs.contracts.tokens.TokenPartialEq.TheImpl as code
use Rattle.texml_token.proofs.Translation.{tokens_agree}
use Rattle.texml_token.proofs.Same.{lists-decides}
use Rattle.texml_match.specs.Groups.{open_behind, is_balanced, unbraced}
use Rattle.texml_match.specs.Arguments.{delimited}
use Rattle.texml_match.proofs.Grouping.{balanced_before, is_depth}

module _ (texts : Table) (g : Numbered texts) where
  pub lists_agree : (xs ys : List TokenCode) → TokensWithin (length texts) xs → TokensWithin (length texts) ys → pointwise token_eq (tokens_at texts xs) (tokens_at texts ys) ≡ pointwise code.eq-value.it xs ys
  lists_agree [] [] h k = refl
  lists_agree [] (y ∷ ys) h k = refl
  lists_agree (x ∷ xs) [] h k = refl
  lists_agree (x ∷ xs) (y ∷ ys) h k = ap₂ (λ b c. b && c)
      (tokens_agree texts g x y (All-head (TokenWithin (length texts)) x xs h) (All-head (TokenWithin (length texts)) y ys k))
      (lists_agree xs ys (All-tail (TokenWithin (length texts)) x xs h) (All-tail (TokenWithin (length texts)) y ys k))

  module _ (list d : List TokenCode) (h : TokensWithin (length texts) list) (k : TokensWithin (length texts) d) where
    place : ℕ
    place = length list - length d

    same_place : length (tokens_at texts list) - length (tokens_at texts d) ≡ length list - length d
    same_place = ap₂ (λ m n. m - n) (length-map list (token_at texts)) (length-map d (token_at texts))

    ends_agree : ends_with token_eq (tokens_at texts list) (tokens_at texts d) ≡ ends_with code.eq-value.it list d
    ends_agree =
        ap (λ n. pointwise token_eq (tokens_at texts d) (drop n (tokens_at texts list))) same_place ∙
        (ap (pointwise token_eq (tokens_at texts d)) (drop-map (token_at texts) (length list - length d) list) ∙
        lists_agree d (drop (length list - length d) list) k (All-drop (TokenWithin (length texts)) (length list - length d) list h))

    front_is : take (length (tokens_at texts list) - length (tokens_at texts d)) (tokens_at texts list) ≡ tokens_at texts (take (length list - length d) list)
    front_is = ap (λ n. take n (tokens_at texts list)) same_place ∙ take-map (token_at texts) (length list - length d) list

    parts : ends_with code.eq-value.it list d ≡ true → list ≡ take (length list - length d) list ++ d
    parts e = sym (take-append-drop (length list - length d) list) ∙ ap (λ xs. take (length list - length d) list ++ xs) (sym ((lists-decides d (drop (length list - length d) list)).0 e))

    pub delimited_no : ends_with code.eq-value.it list d ≡ false → None ≡ delimited (tokens_at texts d) (tokens_at texts list)
    delimited_no e =
        ap (λ b. cond (b && is_balanced (take (length (tokens_at texts list) - length (tokens_at texts d)) (tokens_at texts list))) (Some (unbraced (take (length (tokens_at texts list) - length (tokens_at texts d)) (tokens_at texts list)))) None) (sym (ends_agree ∙ e))

    pub delimited_by : (n : ℕ) (o : Option ℕ) (b : Bool) → ends_with code.eq-value.it list d ≡ true → open_behind 0 (tokens_at texts list) ≡ Some n → o ≡ open_behind 0 (tokens_at texts d) → b ≡ is_depth o n
        → (if b then Some (unbraced (tokens_at texts (take (length list - length d) list))) else None) ≡ delimited (tokens_at texts d) (tokens_at texts list)
    delimited_by n o b e f i is =
        let whole : open_behind 0 (tokens_at texts (take (length list - length d) list) ++ tokens_at texts d) ≡ Some n =
        ap (open_behind 0) (sym (map-append (token_at texts) (take (length list - length d) list) d) ∙ ap (tokens_at texts) (sym (parts e))) ∙ f in
        let balanced = balanced_before (tokens_at texts (take (length list - length d) list)) (tokens_at texts d) n whole o (sym i) in
        ap (λ c. cond c (Some (unbraced (tokens_at texts (take (length list - length d) list)))) None) (is ∙ sym balanced) ∙
        ap₂ (λ c xs. cond (c && is_balanced xs) (Some (unbraced xs)) None) (sym (ends_agree ∙ e)) (sym front_is)
