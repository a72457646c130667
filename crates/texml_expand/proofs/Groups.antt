-- The tokens of a group in braces, as they are fed.
use Rattle.std.proofs.Common.{◌≡◌, ◌+◌, ◌-◌, ◌≤◌, ℕ, zero, suc, Bool, true, false, cond, if◌then◌else◌, List, [], ◌∷◌, ◌++◌, length, take, length-append, Result, Ok, Err, refl, sym, ap, ◌∙◌, subst, arith}
use Rattle.std.specs.List.{count_by}
use Rattle.std.specs.Result.{IfOk}
use Rattle.std.proofs.lemmas.List.{map-append, length-map, length-take-le, take-map}
use Rattle.std.proofs.lemmas.List.Elements.{All-take}
use Rattle.std.proofs.lemmas.Bool.{ne_eqb, eqb-true, eq-eqb}
use Rattle.std.proofs.Math.Seq.{take-append_seam}
use Rattle.texml_base.specs.Outside.{Shelf}
use Rattle.texml_token.specs.Token.{Token, has_category, Char}
use Rattle.texml_token.specs.Numbers.{Table, token_at, tokens_at, TokenWithin, TokensWithin}
use Rattle.texml_token.specs.declared.tokens.Token.{Token as TokenCode}
use Rattle.texml_token.specs.declared.category.TheConstants.{BEGIN_GROUP, END_GROUP}
use Rattle.texml_expand.specs.declared.stop.Stop.{Stop}
use Rattle.texml_expand.specs.declared.feeding.Verdict.TheVariants.{TooShort, Yields}
use Rattle.texml_expand.specs.Held.{Held, Shrinks}
use Rattle.texml_expand.specs.Absorb.{closes, absorbed}
use Rattle.texml_expand.specs.Feeding.{IsOpen, FedBy, judge_group}
use Rattle.texml_expand.specs.Least.{by_least}
use Rattle.texml_expand.proofs.Least.{choose_yes, choose_no, Decides, by_least_leads}
use Rattle.texml_expand.specs.State.{State}
use Rattle.texml_expand.specs.Contract.{Lower}
use Rattle.texml_expand.proofs.Counting.{count_push}
use Rattle.texml_expand.proofs.Leading.{Leads, leads_weaker, lower_none, lower_then}
use Rattle.texml_expand.proofs.Running.{shrinks_less}
use Rattle.texml_expand.proofs.Fed.{verdict_at, Agrees}

-- a group that ends is open
pub one_open : (n : ℕ) (ends : Bool) → (n ≡ 0 → ends ≡ false) → ends ≡ true → 1 ≤ n
one_open zero ends h e = let no = h refl in cc
one_open (suc n) ends h e = omega arith

pub open_none : IsOpen [] 0
open_none = record { balance = refl }

pub open_behind : (list : List Token) (t : Token) (inner n : ℕ) → n + cond (has_category END_GROUP t) 1 0 ≡ inner + cond (has_category BEGIN_GROUP t) 1 0 → IsOpen list inner → IsOpen (list ++ t ∷ []) n
open_behind list t inner n e o = record {
  balance =
      let begins = count_push (has_category BEGIN_GROUP) list t in
      let ends = count_push (has_category END_GROUP) list t in
      let b = o.balance in
      omega arith;
}

-- a character of one category is of no other
ends_not_begins : (t : Token) → has_category END_GROUP t ≡ true → has_category BEGIN_GROUP t ≡ false
ends_not_begins (Char c category) e = ne_eqb category BEGIN_GROUP (λ f. absurd (omega (arith, f, eqb-true category END_GROUP e)))
ends_not_begins t e = refl

-- a list whose groups are open doesn't close, and one whose groups have all ended is closed by one more end
open_no : (list : List Token) (inner : ℕ) → IsOpen list inner → closes list ≡ false
open_no list inner o = let b = o.balance in ne_eqb (count_by (has_category END_GROUP) list) (count_by (has_category BEGIN_GROUP) list + 1) (λ e. omega arith)

closes_yes : (list : List Token) (t : Token) → IsOpen list 0 → has_category END_GROUP t ≡ true → closes (list ++ t ∷ []) ≡ true
closes_yes list t o e =
    let begins = count_push (has_category BEGIN_GROUP) list t ∙ ap (λ x. count_by (has_category BEGIN_GROUP) list + cond x 1 0) (ends_not_begins t e) in
    let ends = count_push (has_category END_GROUP) list t ∙ ap (λ x. count_by (has_category END_GROUP) list + cond x 1 0) e in
    let b = o.balance in
    eq-eqb (count_by (has_category END_GROUP) (list ++ t ∷ [])) (count_by (has_category BEGIN_GROUP) (list ++ t ∷ []) + 1) (omega arith)

pub without_last : {A : Type 0} (list : List A) (t : A) → take (length (list ++ t ∷ []) - 1) (list ++ t ∷ []) ≡ list
without_last list t =
    let n : length (list ++ t ∷ []) - 1 ≡ length list = omega (arith, length-append list (t ∷ [])) in
    ap (λ k. take k (list ++ t ∷ [])) n ∙ take-append_seam list (t ∷ [])

-- the tokens of a group and one more
module _ (texts : Table) (body : List TokenCode) (t : TokenCode) where
  pub pushed : tokens_at texts (body ++ t ∷ []) ≡ tokens_at texts body ++ token_at texts t ∷ []
  pushed = map-append (token_at texts) body (t ∷ [])

  pub group_ends : IsOpen (tokens_at texts body) 0 → has_category END_GROUP (token_at texts t) ≡ true → judge_group texts (body ++ t ∷ []) ≡ Yields body
  group_ends o e =
      choose_yes (closes (tokens_at texts (body ++ t ∷ []))) (Yields (take (length (body ++ t ∷ []) - 1) (body ++ t ∷ []))) TooShort (ap closes pushed ∙ closes_yes (tokens_at texts body) (token_at texts t) o e)
      ∙ ap Yields (without_last body t)

  pub group_open : (inner n : ℕ) → IsOpen (tokens_at texts body) inner → n + cond (has_category END_GROUP (token_at texts t)) 1 0 ≡ inner + cond (has_category BEGIN_GROUP (token_at texts t)) 1 0
      → IsOpen (tokens_at texts (body ++ t ∷ [])) n
  group_open inner n o e = subst (λ l. IsOpen l n) (sym pushed) (open_behind (tokens_at texts body) (token_at texts t) inner n e o)

pub group_short : (texts : Table) (body : List TokenCode) (n : ℕ) → IsOpen (tokens_at texts body) n → judge_group texts body ≡ TooShort
group_short texts body n o = choose_no (closes (tokens_at texts body)) (Yields (take (length body - 1) body)) TooShort (open_no (tokens_at texts body) n o)

-- the code decides what the definition does
agrees_by : (texts : Table) (list : List TokenCode) (b : Bool)
    → (if b then Yields (take (length (tokens_at texts list) - 1) (tokens_at texts list)) else TooShort) ≡ verdict_at (tokens_at texts) (if b then Yields (take (length list - 1) list) else TooShort)
agrees_by texts list true = ap (λ k. Yields (take (k - 1) (tokens_at texts list))) (length-map list (token_at texts)) ∙ ap Yields (take-map (token_at texts) (length list - 1) list)
agrees_by texts list false = refl

pub group_agrees : (group : List TokenCode) → group ≡ [] → Agrees absorbed tokens_at (λ texts list. judge_group texts (group ++ list))
group_agrees group e = record { at = λ texts list n w. agrees_by texts list (closes (tokens_at texts list)) ∙ ap (λ g. verdict_at (tokens_at texts) (judge_group texts (g ++ list))) (sym e) }

pub group_first : (group : List TokenCode) → group ≡ [] → (texts : Table) → judge_group texts (group ++ []) ≡ TooShort
group_first group e texts = ap (λ g. judge_group texts (g ++ [])) e

-- what is absorbed was taken, and the brace behind it
yields_by : (b : Bool) (list body : List TokenCode) → (if b then Yields (take (length list - 1) list) else TooShort) ≡ Yields body → body ≡ take (length list - 1) list
yields_by true list body e = cc
yields_by false list body e = cc

pub group_within : (group : List TokenCode) → group ≡ [] → (body : List TokenCode) (texts : Table) (list : List TokenCode) → judge_group texts (group ++ list) ≡ Yields body → TokensWithin (length texts) list → TokensWithin (length texts) body
group_within group e body texts list h within =
    let is = ap (λ g. judge_group texts (g ++ list)) (sym e) ∙ h in
    subst (TokensWithin (length texts)) (sym (yields_by (closes (tokens_at texts list)) list body is)) (All-take (TokenWithin (length texts)) (length list - 1) list within)

absorbed_by : {T : Type 0} (b : Bool) (list body : List T) → (length list ≡ 0 → b ≡ false) → (if b then Yields (take (length list - 1) list) else TooShort) ≡ Yields body → length body + 1 ≤ length list
absorbed_by true [] body none e = let no : true ≡ false = none refl in cc
absorbed_by true (t ∷ list) body none e =
    let n : body ≡ take (length (t ∷ list) - 1) (t ∷ list) = cc in
    omega (arith, ap length n, length-take-le (length (t ∷ list) - 1) (t ∷ list) (omega arith))
absorbed_by false list body none e = cc

-- what was absorbed, and the brace behind it
pub absorb_short : (group : List TokenCode) → group ≡ [] → (body : List TokenCode) (texts : Table) (list : List TokenCode) → judge_group texts (group ++ list) ≡ Yields body → length body + 1 ≤ length list
absorb_short group e body texts list h = absorbed_by (closes (tokens_at texts list)) list body (none_open list) (ap (λ g. judge_group texts (g ++ list)) (sym e) ∙ h)
  where
    none_open : (list : List TokenCode) → length list ≡ 0 → closes (tokens_at texts list) ≡ false
    none_open [] z = refl
    none_open (t ∷ list) z = absurd (omega (arith, z))

pub absorb_shrinks : (group : List TokenCode) → group ≡ [] → (r : Result (List TokenCode) Stop) (a b : Shelf) (old new : Held) → IfOk r (λ v. FedBy (λ texts list. judge_group texts (group ++ list)) v a old b new) → IfOk r (λ list. Shrinks (length list + 1) a old b new)
absorb_shrinks group e (Ok body) a b old new h =
    shrinks_less (length h.list) (length body + 1) a b old new h.shrinks (absorb_short group e body new.names h.list h.is)
absorb_shrinks group e (Err x) a b old new h = tt

pub absorb_within : (group : List TokenCode) → group ≡ [] → (r : Result (List TokenCode) Stop) (a b : Shelf) (old new : Held) → IfOk r (λ v. FedBy (λ texts list. judge_group texts (group ++ list)) v a old b new) → IfOk r (TokensWithin (length new.names))
absorb_within group e (Ok body) a b old new h = group_within group e body new.names h.list h.is h.within
absorb_within group e (Err x) a b old new h = tt

-- so the definition leaves less to be read by what is absorbed, and the brace behind it
none_closes : (list : List Token) → length list ≡ 0 → closes list ≡ false
none_closes [] z = refl
none_closes (t ∷ list) z = absurd (omega (arith, z))

pub absorb_leads : (s : State) → Leads (λ list t. Lower (length list + 1) s t) (by_least absorbed s)
absorb_leads s =
    leads_weaker (Decides absorbed s) (λ list t. Lower (length list + 1) s t) (by_least absorbed s)
    (λ body t d. lower_then (length d.list) 0 (length body + 1) s t t d.lower (lower_none t) (let n = absorbed_by (closes d.list) d.list body (none_closes d.list) d.is in omega arith))
    (by_least_leads absorbed s)
