-- How many groups are open behind tokens.
use Rattle.std.proofs.Common.{◌≡◌, ◌+◌, ◌-◌, ◌<◌, ◌≤◌, ℕ, zero, suc, Bool, true, false, cond, if◌then◌else◌, ◌&&◌, ◌||◌, nat_eq, List, [], ◌∷◌, ◌++◌, length, take, map, Option, None, Some, refl, sym, ap, ap₂, ◌∙◌, arith, length-append, true≢false, subst}
use Rattle.std.proofs.lemmas.Bool.{ne_eqb, eqb-true}
use Rattle.std.proofs.lemmas.Bool.Decides.{nat_tests}
use Rattle.std.proofs.lemmas.Option.{none-some}
use Rattle.std.specs.Option.{option_and_then, IfSome}
use Rattle.std.specs.List.{All}
use Rattle.std.proofs.lemmas.List.Elements.{All-tail, All-take}
use Rattle.std.proofs.lemmas.List.{map-append}
use Rattle.std.proofs.Math.Seq.{take-append_seam}
use Rattle.texml_token.specs.Token.{Token, Char, Active, Param, Named, Fixed, has_category}
use Rattle.texml_token.specs.declared.tokens.Token.{Token as TokenCode}
use Rattle.texml_token.specs.declared.category.TheConstants.{BEGIN_GROUP, END_GROUP}
use Rattle.texml_token.specs.Numbers.{Table, token_at, tokens_at, TokenWithin, TokensWithin}
use Rattle.texml_match.specs.Groups.{behind_end, behind_token, open_behind, is_none_open, is_balanced, last_is, but_last, closes, inside}
use Rattle.texml_match.specs.Arguments.{undelimited}

-- of two lists one after the other
open_then : (xs ys : List Token) (o : Option ℕ) → ((k : ℕ) → open_behind k (xs ++ ys) ≡ option_and_then (λ j. open_behind j ys) (open_behind k xs)) → option_and_then (λ k. open_behind k (xs ++ ys)) o ≡ option_and_then (λ k. open_behind k ys) (option_and_then (λ k. open_behind k xs) o)
open_then xs ys None h = refl
open_then xs ys (Some k) h = h k

pub open_append : (n : ℕ) (xs ys : List Token) → open_behind n (xs ++ ys) ≡ option_and_then (λ k. open_behind k ys) (open_behind n xs)
open_append n [] ys = refl
open_append n (x ∷ xs) ys = open_then xs ys (behind_token n x) (λ k. open_append k xs ys)

-- of one token more
same_option : (o : Option ℕ) → option_and_then (λ j. open_behind j []) o ≡ o
same_option None = refl
same_option (Some j) = refl

pub open_push : (n k : ℕ) (xs : List Token) (t : Token) → open_behind n xs ≡ Some k → open_behind n (xs ++ t ∷ []) ≡ behind_token k t
open_push n k xs t e = open_append n xs (t ∷ []) ∙ (ap (option_and_then (λ j. open_behind j (t ∷ []))) e ∙ same_option (behind_token k t))

pub open_push_none : (n : ℕ) (xs : List Token) (t : Token) → open_behind n xs ≡ None → open_behind n (xs ++ t ∷ []) ≡ None
open_push_none n xs t e = open_append n xs (t ∷ []) ∙ ap (option_and_then (λ j. open_behind j (t ∷ []))) e

-- of a list of the code with one token more
module _ (texts : Table) (xs ys : List TokenCode) (t : TokenCode) (e : ys ≡ xs ++ t ∷ []) where
  pushed : tokens_at texts ys ≡ tokens_at texts xs ++ token_at texts t ∷ []
  pushed = ap (tokens_at texts) e ∙ map-append (token_at texts) xs (t ∷ [])

  pub pushed_some : (n : ℕ) (o : Option ℕ) → open_behind 0 (tokens_at texts xs) ≡ Some n → o ≡ behind_token n (token_at texts t) → open_behind 0 (tokens_at texts ys) ≡ o
  pushed_some n o f g = ap (open_behind 0) pushed ∙ (open_push 0 n (tokens_at texts xs) (token_at texts t) f ∙ sym g)

  pub pushed_none : (o : Option ℕ) → open_behind 0 (tokens_at texts xs) ≡ o → o ≡ None → open_behind 0 (tokens_at texts ys) ≡ o
  pushed_none o f g = ap (open_behind 0) pushed ∙ (open_push_none 0 (tokens_at texts xs) (token_at texts t) (f ∙ g) ∙ sym g)

-- a bound on a number, if there is one
pub no_more : (o : Option ℕ) (m n : ℕ) → IfSome o (λ k. k ≤ m) → m ≤ n → IfSome o (λ k. k ≤ n)
no_more None m n h le = h
no_more (Some k) m n h le = omega (arith, h, le)

-- of the tokens of the code, from the front on
module _ (texts : Table) (rest behind : List TokenCode) (t : TokenCode) (n : ℕ) (e : rest ≡ t ∷ behind) (o : Option ℕ) (is : o ≡ behind_token n (token_at texts t)) where
  pub open_goes : (k : ℕ) → o ≡ Some k → open_behind k (tokens_at texts behind) ≡ open_behind n (tokens_at texts rest)
  open_goes k f = ap (option_and_then (λ j. open_behind j (tokens_at texts behind))) (sym f ∙ is) ∙ ap (λ list. open_behind n (tokens_at texts list)) (sym e)

  pub open_stops : o ≡ None → None ≡ open_behind n (tokens_at texts rest)
  open_stops f = ap (option_and_then (λ j. open_behind j (tokens_at texts behind))) (sym f ∙ is) ∙ ap (λ list. open_behind n (tokens_at texts list)) (sym e)

pub open_ends : (texts : Table) (rest : List TokenCode) (n : ℕ) → length rest ≡ 0 → Some n ≡ open_behind n (tokens_at texts rest)
open_ends texts [] n e = refl
open_ends texts (t ∷ ts) n e = absurd (omega (arith, e))

-- a token behind a list
pub last_push : (p : Token → Bool) (xs : List Token) (t : Token) → last_is p (xs ++ t ∷ []) ≡ p t
last_push p [] t = refl
last_push p (x ∷ []) t = refl
last_push p (x ∷ y ∷ xs) t = last_push p (y ∷ xs) t

pub but_push : (xs : List Token) (t : Token) → but_last (xs ++ t ∷ []) ≡ xs
but_push xs t = ap (λ n. take n (xs ++ t ∷ [])) (shorter xs t) ∙ take-append_seam xs (t ∷ [])
  where
    shorter : (xs : List Token) (t : Token) → length (xs ++ t ∷ []) - 1 ≡ length xs
    shorter xs t = omega (arith, length-append xs (t ∷ []))

pub inside_of : (t : Token) (inner : List Token) (u : Token) → inside (t ∷ (inner ++ u ∷ [])) ≡ (if has_category BEGIN_GROUP t && (has_category END_GROUP u && is_balanced inner) then Some inner else None)
inside_of t inner u =
    ap₂ (λ (b : Bool) (list : List Token). if has_category BEGIN_GROUP t && (b && is_balanced list) then Some list else None) (last_push (has_category END_GROUP) inner u) (but_push inner u)

module _ (texts : Table) (list behind inner : List TokenCode) (t u : TokenCode) (e : list ≡ t ∷ behind) (f : behind ≡ inner ++ u ∷ []) where
  pieces : tokens_at texts list ≡ token_at texts t ∷ (tokens_at texts inner ++ token_at texts u ∷ [])
  pieces = ap (tokens_at texts) e ∙ ap (λ xs. token_at texts t ∷ xs) (ap (tokens_at texts) f ∙ map-append (token_at texts) inner (u ∷ []))

  pub inside_found : (g : Bool) → g ≡ (has_category BEGIN_GROUP (token_at texts t) && (has_category END_GROUP (token_at texts u) && is_balanced (tokens_at texts inner))) → (if g then Some (tokens_at texts inner) else None) ≡ inside (tokens_at texts list)
  inside_found g h = ap (λ (b : Bool). if b then Some (tokens_at texts inner) else None) h ∙ (sym (inside_of (token_at texts t) (tokens_at texts inner) (token_at texts u)) ∙ ap inside (sym pieces))

pub all_later : (p q r : Bool) → p ≡ true → q ≡ true → r ≡ (p && (q && r))
all_later p q r e f = ap₂ (λ b c. b && (c && r)) (sym e) (sym f)

-- where more groups were open before, as many more are behind
end_shift : (n m k : ℕ) → behind_end n ≡ Some m → behind_end (n + k) ≡ Some (m + k)
end_shift zero m k e = absurd (none-some _ e)
end_shift (suc n) m k e =
    let same : n ≡ m = cc in
    let moved : suc n + k ≡ suc (n + k) = omega arith in
    ap behind_end moved ∙ ap (λ j. Some (j + k)) same

token_shift : (n m k : ℕ) (t : Token) → behind_token n t ≡ Some m → behind_token (n + k) t ≡ Some (m + k)
token_shift n m k t = by (has_category BEGIN_GROUP t) (has_category END_GROUP t)
  where
    by : (b e : Bool) → cond b (Some (n + 1)) (cond e (behind_end n) (Some n)) ≡ Some m → cond b (Some (n + k + 1)) (cond e (behind_end (n + k)) (Some (n + k))) ≡ Some (m + k)
    by true e h = let same : n + 1 ≡ m = cc in ap Some (omega (arith, same))
    by false true h = end_shift n m k h
    by false false h = let same : n ≡ m = cc in ap (λ j. Some (j + k)) same

shift_then : (ts : List Token) (k m : ℕ) (o p : Option ℕ) → ((j : ℕ) → o ≡ Some j → p ≡ Some (j + k)) → ((j : ℕ) → open_behind j ts ≡ Some m → open_behind (j + k) ts ≡ Some (m + k)) → option_and_then (λ j. open_behind j ts) o ≡ Some m → option_and_then (λ j. open_behind j ts) p ≡ Some (m + k)
shift_then ts k m None p f h e = absurd (none-some _ e)
shift_then ts k m (Some j) p f h e = ap (option_and_then (λ i. open_behind i ts)) (f j refl) ∙ h j e

pub open_shift : (ts : List Token) (n m k : ℕ) → open_behind n ts ≡ Some m → open_behind (n + k) ts ≡ Some (m + k)
open_shift [] n m k e = let same : n ≡ m = cc in ap (λ j. Some (j + k)) same
open_shift (t ∷ ts) n m k e = shift_then ts k m (behind_token n t) (behind_token (n + k) t) (λ j. token_shift n j k t) (λ j. open_shift ts j m k) e

-- a list is its first tokens and its last one
pub record Snoc (list : List Token) : Type 0 where
  pub front : List Token
  pub last : Token
  pub is : list ≡ front ++ last ∷ []

pub snoc : (t : Token) (ts : List Token) → Snoc (t ∷ ts)
snoc t [] = record { front = []; last = t; is = refl }
snoc t (u ∷ us) = let s = snoc u us in record { front = t ∷ s.front; last = s.last; is = ap (λ list. t ∷ list) s.is }

-- the end of a group is no begin
ends_not_begins : (t : Token) → has_category END_GROUP t ≡ true → has_category BEGIN_GROUP t ≡ false
ends_not_begins (Char c category) e = ne_eqb category BEGIN_GROUP (λ f. absurd (omega (arith, f, eqb-true category END_GROUP e)))
ends_not_begins (Active c) e = refl
ends_not_begins (Param n) e = refl
ends_not_begins (Named t) e = refl
ends_not_begins Fixed e = refl

-- behind exactly one group none is open
closed : (front : List Token) (t : Token) → has_category END_GROUP t ≡ true → is_balanced front ≡ true → open_behind 1 (front ++ t ∷ []) ≡ Some 0
closed front t e b = by (open_behind 0 front) refl b
  where
    after : (b c : Bool) → b ≡ false → c ≡ true → cond {A = Option ℕ} b (Some 2) (cond c (Some 0) (Some 1)) ≡ Some 0
    after b c f g = ap₂ (λ (b c : Bool). cond {A = Option ℕ} b (Some 2) (cond c (Some 0) (Some 1))) f g

    by : (o : Option ℕ) → open_behind 0 front ≡ o → is_none_open o ≡ true → open_behind 1 (front ++ t ∷ []) ≡ Some 0
    by None f g = absurd (true≢false (sym g))
    by (Some n) f g =
        let none : n ≡ 0 = eqb-true n 0 g in
        let inner : open_behind 0 front ≡ Some 0 = f ∙ ap Some none in
        open_push 1 1 front t (open_shift front 0 0 1 inner) ∙ after (has_category BEGIN_GROUP t) (has_category END_GROUP t) (ends_not_begins t e) e

-- a list in which a group is open isn't exactly one group
some_inside : (t : Token) (ts : List Token) (list : List Token) → inside (t ∷ ts) ≡ Some list → (has_category BEGIN_GROUP t ≡ true) × (closes ts ≡ true)
some_inside t ts list = by (has_category BEGIN_GROUP t) (closes ts)
  where
    by : (b c : Bool) → cond (b && c) (Some (but_last ts)) None ≡ Some list → (b ≡ true) × (c ≡ true)
    by true true e = (refl, refl)
    by true false e = absurd (none-some _ e)
    by false c e = absurd (none-some _ e)

closes_open : (u : Token) (us : List Token) → closes (u ∷ us) ≡ true → open_behind 1 (u ∷ us) ≡ Some 0
closes_open u us e =
    let s = snoc u us in
    let parts : last_is (has_category END_GROUP) (s.front ++ s.last ∷ []) && is_balanced (but_last (s.front ++ s.last ∷ [])) ≡ true = ap closes (sym s.is) ∙ e in
    let both = both_true _ _ (ap₂ (λ b list. b && is_balanced list) (sym (last_push (has_category END_GROUP) s.front s.last)) (sym (but_push s.front s.last)) ∙ parts) in
    ap (open_behind 1) s.is ∙ closed s.front s.last both.0 both.1
  where
    both_true : (p q : Bool) → p && q ≡ true → (p ≡ true) × (q ≡ true)
    both_true true q e = (refl, e)
    both_true false q e = absurd (true≢false (sym e))

open_inside : (t u : Token) (us : List Token) (n : ℕ) → open_behind 0 (t ∷ u ∷ us) ≡ Some n → 0 < n → (o : Option (List Token)) → inside (t ∷ u ∷ us) ≡ o → None ≡ o
open_inside t u us n e lt None h = refl
open_inside t u us n e lt (Some list) h =
    let parts = some_inside t (u ∷ us) list h in
    let first : behind_token 0 t ≡ Some 1 = ap (λ b. cond b (Some 1) (cond (has_category END_GROUP t) None (Some 0))) parts.0 in
    let end : Some n ≡ Some 0 = sym e ∙ (ap (option_and_then (λ k. open_behind k (u ∷ us))) first ∙ closes_open u us parts.1) in
    let none : n ≡ 0 = cc in
    absurd (omega (arith, none))

pub open_undelimited : (list : List Token) (n : ℕ) → open_behind 0 list ≡ Some n → 0 < n → None ≡ undelimited list
open_undelimited [] n e lt = refl
open_undelimited (t ∷ []) n e lt = by (has_category BEGIN_GROUP t) (has_category END_GROUP t) (sym (same_option (behind_token 0 t)) ∙ e)
  where
    by : (b c : Bool) → cond b (Some 1) (cond c None (Some 0)) ≡ Some n → None ≡ cond (b || c) None (Some (t ∷ []))
    by true c h = refl
    by false true h = refl
    by false false h = let none : 0 ≡ n = cc in absurd (omega (arith, none))
open_undelimited (t ∷ u ∷ us) n e lt = open_inside t u us n e lt (inside (t ∷ u ∷ us)) refl

-- before a delimiter the list is balanced exactly where as many groups are open behind the delimiter as begin in it
abbrev pub is_depth : Option ℕ → ℕ → Bool
is_depth None n = false
is_depth (Some k) n = nat_eq k n

pub balanced_before : (front d : List Token) (n : ℕ) → open_behind 0 (front ++ d) ≡ Some n → (o : Option ℕ) → open_behind 0 d ≡ o → is_balanced front ≡ is_depth o n
balanced_before front d n e o f = by (open_behind 0 front) o f (sym (open_append 0 front d) ∙ e)
  where
    some : (k m : ℕ) → open_behind 0 d ≡ Some m → open_behind k d ≡ Some n → nat_eq k 0 ≡ nat_eq m n
    some k m f h =
        let plain : k ≡ 0 + k = omega arith in
        let moved : open_behind k d ≡ Some (m + k) = ap (λ j. open_behind j d) plain ∙ open_shift d 0 m k f in
        let sum : Some n ≡ Some (m + k) = sym h ∙ moved in
        let is : n ≡ m + k = cc in
        grind (arith, nat_tests, is)

    by : (p o : Option ℕ) → open_behind 0 d ≡ o → option_and_then (λ k. open_behind k d) p ≡ Some n → is_none_open p ≡ is_depth o n
    by None o f h = absurd (none-some _ h)
    by (Some zero) None f h = absurd (none-some _ (sym f ∙ h))
    by (Some (suc k)) None f h = ne_eqb (suc k) 0 (λ e. absurd (omega (arith, e)))
    by (Some k) (Some m) f h = some k m f h

-- the parts of a list within a table
pub inner_within : (count : ℕ) (list behind inner : List TokenCode) (t u : TokenCode) → list ≡ t ∷ behind → behind ≡ inner ++ u ∷ [] → TokensWithin count list → TokensWithin count inner
inner_within count list behind inner t u e f h =
    let tail : TokensWithin count behind = All-tail (TokenWithin count) t behind (subst (All (TokenWithin count)) e h) in
    subst (All (TokenWithin count)) (ap (take (length inner)) f ∙ take-append_seam inner (u ∷ [])) (All-take (TokenWithin count) (length inner) behind tail)
