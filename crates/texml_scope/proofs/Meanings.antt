-- Meanings over numbers are the same where those over texts are.
use Rattle.std.proofs.Common.{rules, arith, true≢false, ◌≡◌, ◌≤◌, ◌↔◌, ◌∙◌, ap, ap₂, sym, refl, ℕ, zero, suc, Bool, true, false, List, [], ◌∷◌, map, length, Option, None, Some, option_map, Decides}
use Rattle.std.specs.List.{All}
use Rattle.std.specs.Cmp.Lexicographic.{pointwise}
use Rattle.std.proofs.lemmas.List.Elements.{All-head, All-tail}
use Rattle.std.proofs.lemmas.Slice.Eq.{slice_eq-Decides}
use Rattle.std.proofs.lemmas.Bool.Decides.{same_from_decides}
use Rattle.texml_token.specs.Token.{Token, Char, Active, Param, Named, Fixed, token_eq}
use Rattle.texml_token.specs.declared.pieces.PieceOf.TheVariants.{Just, Slot}
use Rattle.texml_token.specs.Pieces.{Params, map_piece, map_params}
use Rattle.texml_token.specs.declared.pieces.PieceOf.{PieceOf}
use Rattle.texml_token.specs.declared.tokens.Token.{Token as TokenCode}
use Rattle.texml_token.specs.declared.tokens.Token.TheVariants as tokens
use Rattle.texml_token.specs.Numbers.{Table, number_of, Numbered, name_at, token_at, piece_at, params_at, TokensWithin, TokenWithin, BodyTokenWithin, PieceWithin, OptionWithin, ParamsWithin}
use Rattle.texml_token.proofs.Table.{text-decides}
use Rattle.texml_token.proofs.Translation.{body_token}
use Rattle.texml_scope.specs.declared.values.KeyOf.TheVariants as keys
use Rattle.texml_scope.specs.declared.values.MeaningOf.TheVariants as meanings
use Rattle.texml_scope.specs.Values.{Macro as MacroBy, map_key, map_macro, map_meaning}
use Rattle.texml_scope.specs.Shown.{KeyCode}
use Rattle.texml_scope.specs.Texts.{Meaning, MacroText, key_eq}
use Rattle.texml_scope.specs.Numbers.{MeaningCode, name_text, name_back, key_at, key_back, meaning_at, IsRegister, MacroWithin, MeaningWithin}
use Rattle.texml_scope.specs.Equality.{list_eq, piece_eq, default_eq, params_eq, long_eq, macro_eq, meaning_eq}
use Rattle.texml_scope.proofs.Same.{keys-decide}

-- the tests tell apart
token_eq-decides : (t u : Token) → Decides (token_eq t u) (t ≡ u)
token_eq-decides t u = search (rules, text-decides)

list_eq-decides : (a b : List Token) → Decides (list_eq a b) (a ≡ b)
list_eq-decides a b = slice_eq-Decides token_eq-decides a b _ refl

piece_eq-decides : (p q : PieceOf Token) → Decides (piece_eq p q) (p ≡ q)
piece_eq-decides p q = search (rules, token_eq-decides)

pieces-decides : (a b : List (PieceOf Token)) → Decides (pointwise piece_eq a b) (a ≡ b)
pieces-decides a b = slice_eq-Decides piece_eq-decides a b _ refl

default_eq-decides : (a b : Option (List Token)) → Decides (default_eq a b) (a ≡ b)
default_eq-decides None None = (λ e. refl, λ e. refl)
default_eq-decides None (Some b) = (λ e. absurd (true≢false (sym e)), λ e. cc)
default_eq-decides (Some a) None = (λ e. absurd (true≢false (sym e)), λ e. cc)
default_eq-decides (Some a) (Some b) = let d = list_eq-decides a b in (λ e. ap Some (d.0 e), λ e. d.1 cc)

params_eq-decides : (p q : Params Token) → Decides (params_eq p q) (p ≡ q)
params_eq-decides p q = search (rules, default_eq-decides, pieces-decides)

long_eq-decides : (a b : Bool) → Decides (long_eq a b) (a ≡ b)
long_eq-decides a b = search rules

macro_eq-decides : (m n : MacroText) → Decides (macro_eq m n) (m ≡ n)
macro_eq-decides m n = search (rules, long_eq-decides, params_eq-decides, list_eq-decides)

key_eq-decides : (j k : _) → Decides (key_eq j k) (j ≡ k)
key_eq-decides j k = keys-decide _ text-decides j k

pub meaning_eq-decides : (m n : Meaning) → Decides (meaning_eq m n) (m ≡ n)
meaning_eq-decides m n = search (rules, macro_eq-decides, key_eq-decides)

-- from texts back to numbers
token_back : Table → Token → TokenCode
token_back texts (Char c category) = tokens.Char c category
token_back texts (Active c) = tokens.Active c
token_back texts (Param n) = tokens.Param n
token_back texts (Named t) = tokens.Named (record { 0 = number_of texts t })
token_back texts Fixed = tokens.Named (record { 0 = 0 })

list_found : {A B : Type 0} (f : A → B) (g : B → A) (P : A → Type 0) → ((x : A) → P x → g (f x) ≡ x) → (xs : List A) → All P xs → map g (map f xs) ≡ xs
list_found f g P h [] all = refl
list_found f g P h (x ∷ xs) all = ap₂ (λ a b. a ∷ b) (h x (All-head P x xs all)) (list_found f g P h xs (All-tail P x xs all))

module _ (texts : Table) (g : Numbered texts) where
  name_found : (n : ℕ) → n ≤ length texts → token_back texts (name_at texts n) ≡ tokens.Named (record { 0 = n })
  unfolding token_back
  name_found zero le = refl
  name_found (suc k) le = ap (λ n. tokens.Named (record { 0 = n })) (g.back (suc k) (omega arith) le)

  token_found : (slots : ℕ) (t : TokenCode) → BodyTokenWithin (length texts) slots t → token_back texts (token_at texts t) ≡ t
  unfolding token_back
  token_found slots (tokens.Char c category) h = refl
  token_found slots (tokens.Active c) h = refl
  token_found slots (tokens.Param n) h = refl
  token_found slots (tokens.Named name) h = name_found name.0 h

  tokens_found : (ts : List TokenCode) → TokensWithin (length texts) ts → map (token_back texts) (map (token_at texts) ts) ≡ ts
  tokens_found ts h = list_found (token_at texts) (token_back texts) (TokenWithin (length texts)) (λ t w. token_found 0 t (body_token (length texts) 0 t w)) ts h

  piece_found : (p : PieceOf TokenCode) → PieceWithin (length texts) p → map_piece (token_back texts) (piece_at texts p) ≡ p
  piece_found (Just t) h = ap Just (token_found 0 t (body_token (length texts) 0 t h.0))
  piece_found (Slot n) h = refl

  default_found : (list : Option (List TokenCode)) → OptionWithin (TokensWithin (length texts)) list → option_map (map (token_back texts)) (option_map (map (token_at texts)) list) ≡ list
  default_found None h = refl
  default_found (Some list) h = ap Some (tokens_found list h)

  params_found : (p : Params TokenCode) → ParamsWithin (length texts) p → map_params (token_back texts) (params_at texts p) ≡ p
  params_found p h = ap₂ (λ list ps. record { default = list; pieces = ps }) (default_found p.default h.default) (list_found (piece_at texts) (map_piece (token_back texts)) (PieceWithin (length texts)) piece_found p.pieces h.pieces)

  macro_found : (m : MacroBy TokenCode) → MacroWithin (length texts) m → map_macro (name_back texts) (token_back texts) (map_macro (name_text texts) (token_at texts) m) ≡ m
  macro_found m h = λ i. record {
    long = m.long;
    params = params_found m.params h.params i;
    body = list_found (token_at texts) (token_back texts) (BodyTokenWithin (length texts) _) (token_found _) m.body h.body i;
  }

  register_found : (k : KeyCode) → IsRegister k → key_back texts (key_at texts k) ≡ k
  register_found (keys.Name n) h = absurd h
  register_found (keys.Counter n) h = absurd h
  register_found (keys.Within n) h = absurd h
  register_found k h = refl

  meaning_found : (m : MeaningCode) → MeaningWithin (length texts) m → map_meaning (name_back texts) (token_back texts) (meaning_at texts m) ≡ m
  meaning_found (meanings.Macro m) h = ap meanings.Macro (macro_found m h)
  meaning_found (meanings.Quantity k) h = ap meanings.Quantity (register_found k h)
  meaning_found m h = refl

  -- two meanings that the table gives are the same exactly where their texts are
  pub meanings_agree : (m n : MeaningCode) → MeaningWithin (length texts) m → MeaningWithin (length texts) n → (m ≡ n) ↔ (meaning_at texts m ≡ meaning_at texts n)
  meanings_agree m n h k = (λ e. ap (meaning_at texts) e, λ e. sym (meaning_found m h) ∙ ap (map_meaning (name_back texts) (token_back texts)) e ∙ meaning_found n k)

  -- so a test on the one is a test on the other
  pub same_meaning_says : (m n : MeaningCode) (same : Bool) → MeaningWithin (length texts) m → MeaningWithin (length texts) n → Decides same (m ≡ n) → same ≡ meaning_eq (meaning_at texts m) (meaning_at texts n)
  same_meaning_says m n same h k d =
      let e = meanings_agree m n h k in
      let o = meaning_eq-decides (meaning_at texts m) (meaning_at texts n) in
      same_from_decides same (meaning_eq (meaning_at texts m) (meaning_at texts n)) d (λ t. e.1 (o.0 t), λ q. o.1 (e.0 q))
