-- Readings by the least number of next tokens: each decides, and leaves less to be read.
use Rattle.std.proofs.Common.{◌≡◌, ◌≢◌, ◌+◌, ◌≤◌, ◌<◌, ℕ, zero, suc, Bool, true, false, ◌&&◌, List, [], ◌∷◌, ◌++◌, if◌then◌else◌, length, length-append, Option, Some, None, refl, sym, ap, ◌∙◌, subst, arith}
use Rattle.texml_token.specs.Token.{Token}
use Rattle.texml_expand.specs.declared.feeding.Verdict.{Verdict}
use Rattle.texml_expand.specs.declared.feeding.Verdict.TheVariants.{TooShort, Yields, Refuses}
use Rattle.texml_input.specs.Next.{Taken, Given, Got, AtEnd, Invalid, NotUtf8, next}
use Rattle.texml_input.specs.Codes.{cats_of, end_of}
use Rattle.texml_expand.specs.State.{State, Gains, End, room, Answer, Done, Ended, Unfinished, Reading, after, chain, IsDecided, give, ◌>>=◌}
use Rattle.texml_expand.specs.Take.{take_token, take_given, take}
use Rattle.texml_expand.specs.Least.{inside_if, inside, inner_token, next_tokens, least, decides, decided, is_enough, by_tokens, by_least}
use Rattle.texml_expand.specs.Contract.{Lower}
use Rattle.texml_expand.proofs.Deciding.{decided_after, any, chain_decided, take_decided}
use Rattle.texml_expand.proofs.Leading.{Leads, leads_chain, lower_none, lower_then, take_leads, count}

-- a choice
pub choose_yes : {A : Type 0} (b : Bool) (x y : A) → b ≡ true → (if b then x else y) ≡ x
choose_yes b x y e = ap (λ c. if c then x else y) e

pub choose_no : {A : Type 0} (b : Bool) (x y : A) → b ≡ false → (if b then x else y) ≡ y
choose_no b x y e = ap (λ c. if c then x else y) e

-- the number at which a test holds, and below which it doesn't, is the least
pub least_is : (n k : ℕ) (p : ℕ → Bool) → k ≤ n → ((j : ℕ) → j < k → p j ≡ false) → p k ≡ true → least n p ≡ k
least_is zero zero p le fails holds = refl
least_is zero (suc k) p le fails holds = absurd (omega arith)
least_is (suc n) zero p le fails holds = choose_yes (p zero) zero (suc (least n (λ j. p (suc j)))) holds
least_is (suc n) (suc k) p le fails holds =
    choose_no (p zero) zero (suc (least n (λ j. p (suc j)))) (fails zero (omega arith))
    ∙ ap suc (least_is n k (λ j. p (suc j)) (omega arith) (λ j lt. fails (suc j) (omega arith)) holds)

-- the test holds of the least number, where it holds of the bound
holds_by : (n : ℕ) (p : ℕ → Bool) (b : Bool) → p zero ≡ b → p (suc (least n (λ j. p (suc j)))) ≡ true → p (least (suc n) p) ≡ true
holds_by n p true f later = ap p (choose_yes (p zero) zero (suc (least n (λ j. p (suc j)))) f) ∙ f
holds_by n p false f later = ap p (choose_no (p zero) zero (suc (least n (λ j. p (suc j)))) f) ∙ later

pub least_holds : (n : ℕ) (p : ℕ → Bool) → p n ≡ true → p (least n p) ≡ true
least_holds zero p e = e
least_holds (suc n) p e = holds_by n p (p zero) refl (least_holds n (λ j. p (suc j)) e)

-- so many tokens were taken, and no expansion began
pub record Takes (k : ℕ) (s t : State) : Type 0 where
  pub begun : t.begun ≡ s.begun
  pub lower : Lower k s t

pub takes_none : (s : State) → Takes 0 s s
takes_none s = record { begun = refl; lower = lower_none s }

pub takes_then : (j k m : ℕ) (s t u : State) → Takes j s t → Takes k t u → m ≤ j + k → Takes m s u
takes_then j k m s t u g h le = record { begun = h.begun ∙ g.begun; lower = lower_then j k m s t u g.lower h.lower le }

pub takes_room : (k : ℕ) (s t : State) → Takes k s t → k ≤ room s
takes_room k s t g = let l = g.lower.size g.begun in omega arith

token_takes : (b : Bool) (x : Taken) (bytes : ℕ) (s t : State) → t.begun ≡ s.begun → Leads (λ o u. Lower (count o) s u) (take_token b x bytes t) → Leads (λ o u. Takes (count o) s u) (take_token b x bytes t)
token_takes true x bytes s t e l = tt
token_takes false x bytes s t e l = record { begun = e; lower = l }

given_takes : (s : State) (g : Given) → Leads (λ o t. Lower (count o) s t) (take_given g s) → Leads (λ o t. Takes (count o) s t) (take_given g s)
given_takes s (Got t rest place bytes) l = token_takes (s.absorbing && t.crossed) t bytes s (record s { rest = rest; place = place }) refl l
given_takes s (AtEnd place bytes) l = record { begun = refl; lower = l }
given_takes s (Invalid c place bytes) l = tt
given_takes s (NotUtf8 place bytes) l = tt

pub take_takes : (s : State) → Leads (λ o t. Takes (count o) s t) (take s)
take_takes s = given_takes s (next (cats_of s.world) (end_of s.world) s.rest s.place) (take_leads s)

-- a token inside a text
if_takes : (b : Bool) (x : Token) (s t : State) → Takes 1 s t → Leads (λ y u. Takes 1 s u) (inside_if b x t)
if_takes true x s t g = tt
if_takes false x s t g = g

inside_takes : (o : Option Taken) (s t : State) → Takes (count o) s t → Leads (λ y u. Takes 1 s u) (inside o t)
inside_takes None s t g = tt
inside_takes (Some x) s t g = if_takes x.crossed x.token s t g

pub inner_takes : (s : State) → Leads (λ t u. Takes 1 s u) (inner_token s)
inner_takes s = leads_chain (λ o u. Takes (count o) s u) (λ t u. Takes 1 s u) (take s) inside (take_takes s) (λ o u g. inside_takes o s u g)

if_decided : (b : Bool) (x : Token) (s : State) → IsDecided (inside_if b x s)
if_decided true x s = tt
if_decided false x s = tt

inside_decided : (o : Option Taken) (s : State) → IsDecided (inside o s)
inside_decided None s = tt
inside_decided (Some x) s = if_decided x.crossed x.token s

pub inner_decided : (s : State) → IsDecided (inner_token s)
inner_decided s = chain_decided (λ o u. Unit {0}) (take s) inside (take_decided s) (any (take s)) (λ o u _. inside_decided o u)

-- one more token behind a list
abbrev pub one_more : List Token → Reading (List Token)
one_more list = do
  t ← inner_token
  give (list ++ t ∷ [])

-- so many tokens were taken, which are these
pub record Took (k : ℕ) (s : State) (list : List Token) (t : State) : Type 0 where
  pub takes : Takes k s t
  pub number : length list ≡ k

more_took : (k : ℕ) (list : List Token) (s t : State) → Took k s list t → Leads (λ l u. Took (suc k) s l u) (one_more list t)
more_took k list s t h =
    leads_chain (λ y u. Takes 1 t u) (λ l u. Took (suc k) s l u) (inner_token t) (λ y. give (list ++ y ∷ [])) (inner_takes t)
    (λ y u g. record { takes = takes_then k 1 (suc k) s t u h.takes g (omega arith); number = let n = h.number in omega (arith, length-append list (y ∷ [])) })

pub next_took : (k : ℕ) (s : State) → Leads (λ list t. Took k s list t) (next_tokens k s)
next_took zero s = record { takes = takes_none s; number = refl }
next_took (suc k) s = leads_chain (λ list t. Took k s list t) (λ list t. Took (suc k) s list t) (next_tokens k s) one_more (next_took k s) (λ list t h. more_took k list s t h)

-- no more tokens are next than there is room for
few_at : (k : ℕ) (s : State) (a : Answer (List Token)) → room s < k → Leads (λ list t. Took k s list t) a → (list : List Token) (t : State) (gains : Gains) → a ≢ Done list t gains
few_at k s a lt h list t gains e = let took : Took k s list t = subst (Leads (λ l u. Took k s l u)) e h in let le = takes_room k s t took.takes in absurd (omega arith)

pub few_next : (s : State) (k : ℕ) → room s < k → (list : List Token) (t : State) (gains : Gains) → next_tokens k s ≢ Done list t gains
few_next s k lt = few_at k s (next_tokens k s) lt (next_took k s)

more_decided : (list : List Token) (t : State) → IsDecided (one_more list t)
more_decided list t = chain_decided (λ y u. Unit {0}) (inner_token t) (λ y. give (list ++ y ∷ [])) (inner_decided t) (any (inner_token t)) (λ y u _. tt)

pub next_decided : (k : ℕ) (s : State) → IsDecided (next_tokens k s)
next_decided zero s = tt
next_decided (suc k) s = chain_decided (λ list t. Unit {0}) (next_tokens k s) one_more (next_decided k s) (any (next_tokens k s)) (λ list t _. more_decided list t)

module _ {A : Type 0} (decide : List Token → Verdict A) where
  -- more tokens than there is room for are always enough
  pub enough_past : (k : ℕ) (s : State) (a : Answer (List Token)) → room s < k → Leads (λ list t. Took k s list t) a → is_enough decide a ≡ true
  enough_past k s (Done list t gains) lt h = let le = takes_room k s t h.takes in absurd (omega arith)
  enough_past k s (Ended e gains) lt h = refl
  enough_past k s (Unfinished gains) lt h = refl

  verdict_decided : (v : Verdict A) (t : State) → decides v ≡ true → IsDecided (decided v t)
  verdict_decided TooShort t e = cc
  verdict_decided (Yields v) t e = tt
  verdict_decided (Refuses code) t e = tt

  enough_decided : (a : Answer (List Token)) → IsDecided a → is_enough decide a ≡ true → IsDecided (chain a (λ list. decided (decide list)))
  enough_decided (Done list t gains) d e = decided_after gains (decided (decide list) t) (verdict_decided (decide list) t e)
  enough_decided (Ended end gains) d e = tt
  enough_decided (Unfinished gains) d e = d

  abbrev test : State → ℕ → Bool
  test s k = is_enough decide (next_tokens k s)

  pub by_least_decided : (s : State) → IsDecided (by_least decide s)
  by_least_decided s =
      let k : ℕ = least (room s + 1) (test s) in
      enough_decided (next_tokens k s) (next_decided k s)
      (least_holds (room s + 1) (test s) (enough_past (room s + 1) s (next_tokens (room s + 1) s) (omega arith) (next_took (room s + 1) s)))

  -- a value was decided by a list, which was taken
  pub record Decides (s : State) (v : A) (t : State) : Type 0 where
    pub list : List Token
    pub is : decide list ≡ Yields v
    pub lower : Lower (length list) s t

  verdict_leads : (s t : State) (list : List Token) (v : Verdict A) → decide list ≡ v → Lower (length list) s t → Leads (Decides s) (decided v t)
  verdict_leads s t list TooShort e l = tt
  verdict_leads s t list (Yields v) e l = record { list = list; is = e; lower = l }
  verdict_leads s t list (Refuses code) e l = tt

  by_tokens_leads : (k : ℕ) (s : State) → Leads (Decides s) (by_tokens decide k s)
  by_tokens_leads k s =
      leads_chain (λ list t. Took k s list t) (Decides s) (next_tokens k s) (λ list. decided (decide list)) (next_took k s)
      (λ list t h. verdict_leads s t list (decide list) refl (subst (λ n. Lower n s t) (sym h.number) h.takes.lower))

  pub by_least_leads : (s : State) → Leads (Decides s) (by_least decide s)
  by_least_leads s = by_tokens_leads (least (room s + 1) (test s)) s

  -- what a list decides that is the first to decide
  pub by_least_at : (s t : State) (list : List Token) (gains : Gains) (v : Verdict A) → next_tokens (length list) s ≡ Done list t gains → decide list ≡ v → decides v ≡ true
      → ((j : ℕ) → j < length list → test s j ≡ false) → by_least decide s ≡ after gains (decided v t)
  by_least_at s t list gains v e is d before =
      let took = takes_room (length list) s t (at e (next_took (length list) s)).takes in
      ap (λ k. by_tokens decide k s) (least_is (room s + 1) (length list) (test s) (omega arith) before (ap (is_enough decide) e ∙ ap decides is ∙ d))
      ∙ ap (λ a. chain a (λ l. decided (decide l))) e ∙ ap (λ w. after gains (decided w t)) is
    where
      at : {a : Answer (List Token)} → a ≡ Done list t gains → Leads (λ l u. Took (length list) s l u) a → Took (length list) s list t
      at f h = subst (Leads (λ l u. Took (length list) s l u)) f h

  -- an end behind a list, where neither it nor a first part of it decides
  pub by_least_ends : (s : State) (k : ℕ) (end : End) (gains : Gains) → k ≤ room s + 1 → next_tokens k s ≡ Ended end gains → ((j : ℕ) → j < k → test s j ≡ false) → by_least decide s ≡ Ended end gains
  by_least_ends s k end gains le e before =
      ap (λ n. by_tokens decide n s) (least_is (room s + 1) k (test s) le before (ap (is_enough decide) e))
      ∙ ap (λ a. chain a (λ l. decided (decide l))) e
