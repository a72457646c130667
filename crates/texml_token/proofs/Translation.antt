-- What tokens by number stand for, as the table grows.
use Rattle.std.proofs.Common.{◌≡◌, ◌≤◌, ℕ, zero, suc, Bool, true, false, List, [], ◌∷◌, map, Option, None, Some, option_map, length, refl, sym, ap, ap₂, ◌∙◌, arith, nat_eq, true≢false, rules}
use Rattle.std.specs.List.{All}
use Rattle.std.proofs.lemmas.Bool.{eq-eqb, ne_eqb}
use Rattle.std.proofs.lemmas.List.Elements.{All-head, All-tail}
use Rattle.texml_token.specs.Token.{Char, Active, Named, text_eq, token_eq}
use Rattle.texml_token.specs.Pieces.{Params, Just, Slot}
use Rattle.texml_token.specs.Numbers.{Table, text_at, number_of, Numbered, Extends, name_at, token_at, tokens_at, piece_at, pieces_at, params_at, TokenWithin, TokensWithin, BodyTokenWithin, BodyWithin, PieceWithin, OptionWithin, ParamsWithin}
use Rattle.texml_token.specs.declared.pieces.PieceOf.{PieceOf}
use Rattle.texml_token.specs.declared.tokens.Token.{Token as TokenCode}
use Rattle.texml_token.specs.declared.tokens.Token.TheVariants as tokens
use Rattle.texml_token.specs.contracts.tokens.TokenPartialEq.TheImpl as tokens_eq
use Rattle.texml_token.proofs.Table.{text-decides, text_at_number}
use Rattle.texml_token.proofs.Same.{token-decides}

-- a list of given things stands for the same
pub map_same : {A B : Type 0} (f g : A → B) (P : A → Type 0) → ((x : A) → P x → f x ≡ g x) → (xs : List A) → All P xs → map f xs ≡ map g xs
map_same f g P h [] k = refl
map_same f g P h (x ∷ xs) k = ap₂ (λ a b. a ∷ b) (h x (All-head P x xs k)) (map_same f g P h xs (All-tail P x xs k))

module _ (old new : Table) (g : Extends old new) where
  pub name_kept : (n : ℕ) → n ≤ length old → name_at new n ≡ name_at old n
  name_kept zero h = refl
  name_kept (suc k) h = ap Named (g.texts (suc k) h)

  pub token_kept : (t : TokenCode) → TokenWithin (length old) t → token_at new t ≡ token_at old t
  token_kept (tokens.Char c category) h = refl
  token_kept (tokens.Active c) h = refl
  token_kept (tokens.Param n) h = refl
  token_kept (tokens.Named name) h = name_kept name.0 h

  pub tokens_kept : (ts : List TokenCode) → TokensWithin (length old) ts → tokens_at new ts ≡ tokens_at old ts
  tokens_kept ts h = map_same (token_at new) (token_at old) (TokenWithin (length old)) token_kept ts h

  pub body_token_kept : (slots : ℕ) (t : TokenCode) → BodyTokenWithin (length old) slots t → token_at new t ≡ token_at old t
  body_token_kept slots (tokens.Char c category) h = refl
  body_token_kept slots (tokens.Active c) h = refl
  body_token_kept slots (tokens.Param n) h = refl
  body_token_kept slots (tokens.Named name) h = name_kept name.0 h

  pub body_kept : (slots : ℕ) (ts : List TokenCode) → BodyWithin (length old) slots ts → tokens_at new ts ≡ tokens_at old ts
  body_kept slots ts h = map_same (token_at new) (token_at old) (BodyTokenWithin (length old) slots) (body_token_kept slots) ts h

  piece_kept : (p : PieceOf TokenCode) → PieceWithin (length old) p → piece_at new p ≡ piece_at old p
  piece_kept (Just t) h = ap Just (token_kept t h.0)
  piece_kept (Slot n) h = refl

  pub pieces_kept : (ps : List (PieceOf TokenCode)) → All (PieceWithin (length old)) ps → pieces_at new ps ≡ pieces_at old ps
  pieces_kept ps h = map_same (piece_at new) (piece_at old) (PieceWithin (length old)) piece_kept ps h

  default_kept : (list : Option (List TokenCode)) → OptionWithin (TokensWithin (length old)) list → option_map (tokens_at new) list ≡ option_map (tokens_at old) list
  default_kept None h = refl
  default_kept (Some list) h = ap Some (tokens_kept list h)

  pub params_kept : (p : Params TokenCode) → ParamsWithin (length old) p → params_at new p ≡ params_at old p
  params_kept p h = ap₂ (λ list ps. record { default = list; pieces = ps }) (default_kept p.default h.default) (pieces_kept p.pieces h.pieces)

-- more names, and all are still given
pub token_more : (m n : ℕ) → m ≤ n → (t : TokenCode) → TokenWithin m t → TokenWithin n t
token_more m n le (tokens.Char c category) h = h
token_more m n le (tokens.Active c) h = h
token_more m n le (tokens.Param k) h = h
token_more m n le (tokens.Named name) h = omega (arith, h)

pub tokens_more : (m n : ℕ) → m ≤ n → (ts : List TokenCode) → TokensWithin m ts → TokensWithin n ts
tokens_more m n le ts h = λ k d lt. token_more m n le _ (h k d lt)

pub body_token_more : (m n : ℕ) → m ≤ n → (slots : ℕ) (t : TokenCode) → BodyTokenWithin m slots t → BodyTokenWithin n slots t
body_token_more m n le slots (tokens.Char c category) h = h
body_token_more m n le slots (tokens.Active c) h = h
body_token_more m n le slots (tokens.Param k) h = h
body_token_more m n le slots (tokens.Named name) h = omega (arith, h)

pub body_more : (m n : ℕ) → m ≤ n → (slots : ℕ) (ts : List TokenCode) → BodyWithin m slots ts → BodyWithin n slots ts
body_more m n le slots ts h = λ k d lt. body_token_more m n le slots _ (h k d lt)

piece_more : (m n : ℕ) → m ≤ n → (p : PieceOf TokenCode) → PieceWithin m p → PieceWithin n p
piece_more m n le (Just t) h = (token_more m n le t h.0, h.1)
piece_more m n le (Slot k) h = tt

default_more : (m n : ℕ) → m ≤ n → (list : Option (List TokenCode)) → OptionWithin (TokensWithin m) list → OptionWithin (TokensWithin n) list
default_more m n le None h = tt
default_more m n le (Some list) h = tokens_more m n le list h

pub params_more : (m n : ℕ) → m ≤ n → (p : Params TokenCode) → ParamsWithin m p → ParamsWithin n p
params_more m n le p h = record {
  default = default_more m n le p.default h.default;
  pieces = λ k d lt. piece_more m n le _ (h.pieces k d lt);
  shape = h.shape;
}

-- a token that stands anywhere may stand in a body
pub body_token : (count slots : ℕ) (t : TokenCode) → TokenWithin count t → BodyTokenWithin count slots t
body_token count slots (tokens.Char c category) h = h
body_token count slots (tokens.Active c) h = h
body_token count slots (tokens.Param n) h = absurd h
body_token count slots (tokens.Named name) h = h

-- and in a body without parameters each token is one
pub plain_token : (count : ℕ) (t : TokenCode) → BodyTokenWithin count 0 t → TokenWithin count t
plain_token count (tokens.Char c category) h = h
plain_token count (tokens.Active c) h = h
plain_token count (tokens.Param n) h = omega (arith, h.0, h.1)
plain_token count (tokens.Named name) h = h

module _ (texts : Table) (g : Numbered texts) where
  -- a given name has the number of a text exactly where it has the text
  pub same_number : (n : ℕ) (q : List ℕ) → 1 ≤ n → n ≤ length texts → nat_eq n (number_of texts q) ≡ text_eq (text_at texts n) q
  same_number n q one le = by (text_eq (text_at texts n) q) refl
    where
      by : (b : Bool) → text_eq (text_at texts n) q ≡ b → nat_eq n (number_of texts q) ≡ b
      by true e = eq-eqb n (number_of texts q) (sym (ap (number_of texts) (sym ((text-decides (text_at texts n) q).0 e)) ∙ g.back n one le))
      by false e = ne_eqb n (number_of texts q) (λ same. absurd (true≢false (sym ((text-decides (text_at texts n) q).1 (ap (text_at texts) same ∙ text_at_number texts q (omega (arith, same, le)))) ∙ e)))

  text_same_number : (m n : ℕ) → 1 ≤ m → m ≤ length texts → 1 ≤ n → n ≤ length texts → text_eq (text_at texts m) (text_at texts n) ≡ nat_eq m n
  text_same_number m n a b c d = sym (same_number m (text_at texts n) a b) ∙ ap (nat_eq m) (g.back n c d)

  -- two given names are the same where their numbers are
  pub names_agree : (m n : ℕ) → m ≤ length texts → n ≤ length texts → token_eq (name_at texts m) (name_at texts n) ≡ nat_eq m n
  names_agree zero zero b d = refl
  names_agree zero (suc n) b d = sym (ne_eqb 0 (suc n) (λ e. omega (arith, e)))
  names_agree (suc m) zero b d = sym (ne_eqb (suc m) 0 (λ e. omega (arith, e)))
  names_agree (suc m) (suc n) b d = text_same_number (suc m) (suc n) (omega arith) b (omega arith) d

  -- a name is no other token
  no_name : (n : ℕ) → ((c k : ℕ) → token_eq (Char c k) (name_at texts n) ≡ false) × ((c : ℕ) → token_eq (Active c) (name_at texts n) ≡ false)
  no_name zero = (λ c k. refl, λ c. refl)
  no_name (suc n) = (λ c k. refl, λ c. refl)

  name_is_no : (n : ℕ) → ((c k : ℕ) → token_eq (name_at texts n) (Char c k) ≡ false) × ((c : ℕ) → token_eq (name_at texts n) (Active c) ≡ false)
  name_is_no zero = (λ c k. refl, λ c. refl)
  name_is_no (suc n) = (λ c k. refl, λ c. refl)

  -- and so for tokens
  pub tokens_agree : (t u : TokenCode) → TokenWithin (length texts) t → TokenWithin (length texts) u → token_eq (token_at texts t) (token_at texts u) ≡ tokens_eq.eq-value.it t u
  tokens_agree (tokens.Char c k) (tokens.Char d l) h i = search rules
  tokens_agree (tokens.Char c k) (tokens.Active d) h i = refl
  tokens_agree (tokens.Char c k) (tokens.Named n) h i = (no_name n.0).0 c k
  tokens_agree (tokens.Active c) (tokens.Char d l) h i = refl
  tokens_agree (tokens.Active c) (tokens.Active d) h i = search rules
  tokens_agree (tokens.Active c) (tokens.Named n) h i = (no_name n.0).1 c
  tokens_agree (tokens.Named n) (tokens.Char d l) h i = (name_is_no n.0).0 d l
  tokens_agree (tokens.Named n) (tokens.Active d) h i = (name_is_no n.0).1 d
  tokens_agree (tokens.Named m) (tokens.Named n) h i = names_agree m.0 n.0 h i
  tokens_agree (tokens.Param m) u h i = absurd h
  tokens_agree (tokens.Char c k) (tokens.Param n) h i = absurd i
  tokens_agree (tokens.Active c) (tokens.Param n) h i = absurd i
  tokens_agree (tokens.Named m) (tokens.Param n) h i = absurd i

  token_eq_itself : (t : TokenCode) → tokens_eq.eq-value.it t t ≡ true
  token_eq_itself t = (token-decides t t).1 refl

  -- given tokens that stand for the same are the same
  pub token_same : (t u : TokenCode) → TokenWithin (length texts) t → TokenWithin (length texts) u → token_at texts t ≡ token_at texts u → t ≡ u
  token_same t u h k e =
      (token-decides t u).0 (sym (tokens_agree t u h k) ∙ (ap (token_eq (token_at texts t)) (sym e) ∙ (tokens_agree t t h h ∙ token_eq_itself t)))

  pub tokens_same : (ts us : List TokenCode) → TokensWithin (length texts) ts → TokensWithin (length texts) us → tokens_at texts ts ≡ tokens_at texts us → ts ≡ us
  tokens_same [] [] h k e = refl
  tokens_same [] (u ∷ us) h k e = cc
  tokens_same (t ∷ ts) [] h k e = cc
  tokens_same (t ∷ ts) (u ∷ us) h k e =
      let heads : token_at texts t ≡ token_at texts u = cc in
      let tails : tokens_at texts ts ≡ tokens_at texts us = cc in
      ap₂ (λ a b. a ∷ b)
      (token_same t u (All-head (TokenWithin (length texts)) t ts h) (All-head (TokenWithin (length texts)) u us k) heads)
      (tokens_same ts us (All-tail (TokenWithin (length texts)) t ts h) (All-tail (TokenWithin (length texts)) u us k) tails)
