-- Readings by the least number of next tokens, one token after the other.
use Rattle.std.proofs.Common.{◌≡◌, ◌+◌, ◌≤◌, ◌<◌, ℕ, zero, suc, Bool, true, false, if◌then◌else◌, List, [], ◌∷◌, ◌++◌, length, refl, sym, ap, ◌∙◌, subst, arith}
use Rattle.texml_token.specs.Token.{Token}
use Rattle.texml_expand.specs.declared.feeding.Verdict.{Verdict}
use Rattle.texml_expand.specs.declared.feeding.Verdict.TheVariants.{TooShort, Yields, Refuses}
use Rattle.texml_expand.specs.State.{State, End, Gains, room, nothing, Answer, Done, Ended, Unfinished, after, chain, IsDecided, give}
use Rattle.texml_expand.specs.Least.{inner_token, next_tokens, least, decides, decided, is_enough, by_tokens, by_least}
use Rattle.texml_expand.proofs.Leading.{Leads, leads_chain, leads_at}
use Rattle.texml_expand.proofs.Least.{Takes, Took, inner_takes, inner_decided, next_took, one_more, least_is, least_holds, enough_past, by_least_at, by_least_ends}
use Rattle.texml_expand.proofs.Spending.{chain_after}

-- the least number is no greater than the bound, and the test fails below it
least_le : (n : ℕ) (p : ℕ → Bool) → least n p ≤ n
least_le zero p = omega arith
least_le (suc n) p = at (p zero) (least_le n (λ k. p (suc k)))
  where
    at : (b : Bool) → least n (λ k. p (suc k)) ≤ n → (if b then zero else suc (least n (λ k. p (suc k)))) ≤ suc n
    at true le = omega arith
    at false le = omega arith

fails_if : (b : Bool) (j k : ℕ) (p : ℕ → Bool) → p zero ≡ b → ((i : ℕ) → i < k → p (suc i) ≡ false) → j < (if b then zero else suc k) → p j ≡ false
fails_if true j k p e h lt = absurd (omega (arith, lt))
fails_if false zero k p e h lt = e
fails_if false (suc i) k p e h lt = h i (omega (arith, lt))

least_fails : (n j : ℕ) (p : ℕ → Bool) → j < least n p → p j ≡ false
least_fails zero j p lt = absurd (omega (arith, lt))
least_fails (suc n) j p lt = fails_if (p zero) j (least n (λ k. p (suc k))) p refl (λ i less. least_fails n i (λ k. p (suc k)) less) lt

-- a token before a list that is answered
abbrev pub before : Token → Answer (List Token) → Answer (List Token)
before t (Done list s gains) = Done (t ∷ list) s gains
before t (Ended e gains) = Ended e gains
before t (Unfinished gains) = Unfinished gains

before_after : (t : Token) (gains : Gains) (a : Answer (List Token)) → after gains (before t a) ≡ before t (after gains a)
before_after t gains (Done list s more) = refl
before_after t gains (Ended e more) = refl
before_after t gains (Unfinished more) = refl

before_push : (t : Token) (list : List Token) (a : Answer Token) → chain a (λ x. give (t ∷ list ++ x ∷ [])) ≡ before t (chain a (λ x. give (list ++ x ∷ [])))
before_push t list (Done x s gains) = refl
before_push t list (Ended e gains) = refl
before_push t list (Unfinished gains) = refl

before_more : (t : Token) (a : Answer (List Token)) → chain (before t a) one_more ≡ before t (chain a one_more)
before_more t (Done list s gains) = ap (after gains) (before_push t list (inner_token s)) ∙ before_after t gains (one_more list s)
before_more t (Ended e gains) = refl
before_more t (Unfinished gains) = refl

-- the first of so many tokens, and the others
front_tokens : (k : ℕ) (s u : State) (t : Token) (gains : Gains) → inner_token s ≡ Done t u gains → next_tokens (suc k) s ≡ after gains (before t (next_tokens k u))
front_tokens zero s u t gains e = ap (λ a. after nothing (chain a (λ x. give ([] ++ x ∷ [])))) e
front_tokens (suc k) s u t gains e =
    ap (λ a. chain a one_more) (front_tokens k s u t gains e) ∙ chain_after gains (before t (next_tokens k u)) one_more ∙ ap (after gains) (before_more t (next_tokens k u))

-- a token leaves less to be read
token_smaller : (s u : State) (t : Token) (gains : Gains) → inner_token s ≡ Done t u gains → room u + 1 ≤ room s
token_smaller s u t gains e = let l = leads_at (λ x v. Takes 1 s v) (inner_token s) t u gains e (inner_takes s) in l.lower.size l.begun

module _ {A : Type 0} (decide : List Token → Verdict A) where
  -- what more tokens decide behind one
  abbrev pub behind_one : Token → List Token → Verdict A
  behind_one t list = decide (t ∷ list)

  enough_after : (gains : Gains) (a : Answer (List Token)) → is_enough decide (after gains a) ≡ is_enough decide a
  enough_after gains (Done list s more) = refl
  enough_after gains (Ended e more) = refl
  enough_after gains (Unfinished more) = refl

  enough_before : (t : Token) (a : Answer (List Token)) → is_enough decide (before t a) ≡ is_enough (behind_one t) a
  enough_before t (Done list s gains) = refl
  enough_before t (Ended e gains) = refl
  enough_before t (Unfinished gains) = refl

  decided_before : (t : Token) (a : Answer (List Token)) → chain (before t a) (λ list. decided (decide list)) ≡ chain a (λ list. decided (behind_one t list))
  decided_before t (Done list s gains) = refl
  decided_before t (Ended e gains) = refl
  decided_before t (Unfinished gains) = refl

  module _ (s u : State) (t : Token) (gains : Gains) (e : inner_token s ≡ Done t u gains) (short : decides (decide []) ≡ false) where
    abbrev all : ℕ → Bool
    all k = is_enough decide (next_tokens k s)

    abbrev others : ℕ → Bool
    others k = is_enough (behind_one t) (next_tokens k u)

    all_suc : (k : ℕ) → all (suc k) ≡ others k
    all_suc k = ap (is_enough decide) (front_tokens k s u t gains e) ∙ enough_after gains (before t (next_tokens k u)) ∙ enough_before t (next_tokens k u)

    abbrev least_others : ℕ
    least_others = least (room u + 1) others

    fails_below : (j : ℕ) → j < suc least_others → all j ≡ false
    fails_below zero lt = short
    fails_below (suc i) lt = all_suc i ∙ least_fails (room u + 1) i others (omega (arith, lt))

    least_all : least (room s + 1) all ≡ suc least_others
    least_all =
        let le = least_le (room u + 1) others in
        let smaller = token_smaller s u t gains e in
        least_is (room s + 1) (suc least_others) all (omega (arith, le, smaller)) fails_below
        (all_suc least_others ∙ least_holds (room u + 1) others (enough_past (behind_one t) (room u + 1) u (next_tokens (room u + 1) u) (omega arith) (next_took (room u + 1) u)))

    -- a token that is too short by itself, and what the others decide behind it
    by_least_on : by_least decide s ≡ after gains (by_least (behind_one t) u)
    by_least_on =
        ap (λ k. by_tokens decide k s) least_all ∙ ap (λ a. chain a (λ list. decided (decide list))) (front_tokens least_others s u t gains e)
        ∙ chain_after gains (before t (next_tokens least_others u)) (λ list. decided (decide list)) ∙ ap (after gains) (decided_before t (next_tokens least_others u))

  -- nothing more is needed
  pub by_least_now : (s : State) (v : Verdict A) → decide [] ≡ v → decides v ≡ true → by_least decide s ≡ after nothing (decided v s)
  by_least_now s v e d = by_least_at decide s s [] nothing v refl e d (λ j lt. absurd (omega (arith, lt)))

  -- the next token can't be taken
  pub by_least_cut : (s : State) (end : End) (gains : Gains) → inner_token s ≡ Ended end gains → decides (decide []) ≡ false → by_least decide s ≡ Ended end gains
  by_least_cut s end gains e short = by_least_ends decide s 1 end gains (omega arith) (ap (λ a. after nothing (chain a (λ x. give ([] ++ x ∷ [])))) e) first
    where
      first : (j : ℕ) → j < 1 → is_enough decide (next_tokens j s) ≡ false
      first zero lt = short
      first (suc j) lt = absurd (omega (arith, lt))

  -- where no token is too few: the next one, and what the others decide behind it
  by_least_from : (s : State) (a : Answer Token) → inner_token s ≡ a → decides (decide []) ≡ false → by_least decide s ≡ chain a (λ t. by_least (behind_one t))
  by_least_from s (Done t u gains) e short = by_least_on s u t gains e short
  by_least_from s (Ended end gains) e short = by_least_cut s end gains e short
  by_least_from s (Unfinished gains) e short = absurd (subst IsDecided e (inner_decided s))

  pub by_least_is : (s : State) → decides (decide []) ≡ false → by_least decide s ≡ chain (inner_token s) (λ t. by_least (behind_one t))
  by_least_is s short = by_least_from s (inner_token s) refl short

  -- a value was decided by a list, which was taken, and no expansion began
  pub record Decided (s : State) (v : A) (t : State) : Type 0 where
    pub list : List Token
    pub is : decide list ≡ Yields v
    pub takes : Takes (length list) s t

  verdict_takes : (s t : State) (list : List Token) (v : Verdict A) → decide list ≡ v → Takes (length list) s t → Leads (Decided s) (decided v t)
  verdict_takes s t list TooShort e l = tt
  verdict_takes s t list (Yields v) e l = record { list = list; is = e; takes = l }
  verdict_takes s t list (Refuses code) e l = tt

  tokens_takes : (k : ℕ) (s : State) → Leads (Decided s) (by_tokens decide k s)
  tokens_takes k s =
      leads_chain (λ list t. Took k s list t) (Decided s) (next_tokens k s) (λ list. decided (decide list)) (next_took k s)
      (λ list t h. verdict_takes s t list (decide list) refl (subst (λ n. Takes n s t) (sym h.number) h.takes))

  pub by_least_takes : (s : State) → Leads (Decided s) (by_least decide s)
  by_least_takes s = tokens_takes (least (room s + 1) (λ k. is_enough decide (next_tokens k s))) s
