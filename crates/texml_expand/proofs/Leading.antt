-- Where a reading leads, and that taking leaves less to be read.
use Rattle.std.proofs.Common.{◌≡◌, ◌+◌, ◌≤◌, ℕ, Bool, true, false, ◌&&◌, length, Option, refl, ◌∙◌, subst, arith, inl, inr, eq-or-lt_of_le}
use Rattle.std.specs.Option.{option_to_list}
use Rattle.texml_input.specs.Next.{Taken, Given, Got, AtEnd, Invalid, NotUtf8, next}
use Rattle.texml_input.specs.Codes.{cats_of, end_of}
use Rattle.texml_expand.specs.State.{State, Gains, Answer, Done, Ended, Unfinished, Reading, after, chain}
use Rattle.texml_expand.specs.Take.{take, take_token, take_given}
use Rattle.texml_expand.specs.Contract.{Lower, Begins}
use Rattle.texml_expand.proofs.Lower.{next_lower}

-- what holds of the value and the state of an answer
abbrev pub Leads : {A : Type 0} → (A → State → Type 0) → Answer A → Type 0
Leads P (Done v t gains) = P v t
Leads P (Ended e gains) = Unit {0}
Leads P (Unfinished gains) = Unit {0}

pub leads_after : {A : Type 0} (P : A → State → Type 0) (gains : Gains) (a : Answer A) → Leads P a → Leads P (after gains a)
leads_after P gains (Done v t more) h = h
leads_after P gains (Ended e more) h = tt
leads_after P gains (Unfinished more) h = tt

pub leads_chain : {A B : Type 0} (P : A → State → Type 0) (Q : B → State → Type 0) (a : Answer A) (f : A → Reading B) → Leads P a
    → ((v : A) (t : State) → P v t → Leads Q (f v t)) → Leads Q (chain a f)
leads_chain P Q (Done v t gains) f h go = leads_after Q gains (f v t) (go v t h)
leads_chain P Q (Ended e gains) f h go = tt
leads_chain P Q (Unfinished gains) f h go = tt

pub leads_at : {A : Type 0} (P : A → State → Type 0) (a : Answer A) (v : A) (t : State) (gains : Gains) → a ≡ Done v t gains → Leads P a → P v t
leads_at P a v t gains e h = subst (Leads P) e h

pub leads_weaker : {A : Type 0} (P Q : A → State → Type 0) (a : Answer A) → ((v : A) (t : State) → P v t → Q v t) → Leads P a → Leads Q a
leads_weaker P Q (Done v t gains) go p = go v t p
leads_weaker P Q (Ended e gains) go p = tt
leads_weaker P Q (Unfinished gains) go p = tt

-- how many tokens an answer has
abbrev pub count : {A : Type 0} → Option A → ℕ
count o = length (option_to_list o)

-- less is left to read
pub lower_none : (s : State) → Lower 0 s s
lower_none s = record { limit = refl; nesting = refl; begun = omega arith; size = λ _. omega arith; within = λ lt. absurd (omega (arith, lt)) }

pub lower_then : (j k m : ℕ) (s t u : State) → Lower j s t → Lower k t u → m ≤ j + k → Lower m s u
lower_then j k m s t u g h le = record {
  limit = h.limit ∙ g.limit;
  nesting = h.nesting ∙ g.nesting;
  begun = omega (arith, g.begun, h.begun);
  size = λ e. let a = g.size (omega (arith, g.begun, h.begun, e)) in let b = h.size (omega (arith, g.begun, h.begun, e)) in omega arith;
  within = λ lt. elim (eq-or-lt_of_le h.begun) [
    | inl same ↦ (let w : t.begun ≤ t.limit = g.within (omega (arith, lt, same)) in omega (arith, w, same, h.limit))
    | inr later ↦ h.within later
  ];
}

pub begins_lower : (k m : ℕ) (s t u : State) → Begins s t → Lower k t u → Lower m s u
begins_lower k m s t u g h = record {
  limit = h.limit ∙ g.limit;
  nesting = h.nesting ∙ g.nesting;
  begun = omega (arith, g.begun, h.begun);
  size = λ e. absurd (omega (arith, g.begun, h.begun, e));
  within = λ lt. elim (eq-or-lt_of_le h.begun) [
    | inl same ↦ omega (arith, g.within, same, h.limit)
    | inr later ↦ h.within later
  ];
}

pub lower_less : (k : ℕ) (s t : State) → Lower k s t → Lower 0 s t
lower_less k s t l = lower_then k 0 0 s t t l (lower_none t) (omega arith)

-- a token that is taken, unless it may not stand there
token_leads : (b : Bool) (x : Taken) (bytes : ℕ) (s t : State) → Lower 1 s t → Leads (λ o u. Lower (count o) s u) (take_token b x bytes t)
token_leads true x bytes s t l = tt
token_leads false x bytes s t l = l

-- the token at the front is gone
given_leads : (s : State) (g : Given) → next (cats_of s.world) (end_of s.world) s.rest s.place ≡ g → Leads (λ o t. Lower (count o) s t) (take_given g s)
given_leads s (Got t rest place bytes) e =
    token_leads (s.absorbing && t.crossed) t bytes s (record s { rest = rest; place = place }) (record {
      limit = refl;
      nesting = refl;
      begun = omega arith;
      size = λ _. let less = next_lower (cats_of s.world) (end_of s.world) s.rest rest s.place place t bytes e in omega arith;
      within = λ lt. absurd (omega (arith, lt));
    })
given_leads s (AtEnd place bytes) e = record { limit = refl; nesting = refl; begun = omega arith; size = λ _. omega arith; within = λ lt. absurd (omega (arith, lt)) }
given_leads s (Invalid c place bytes) e = tt
given_leads s (NotUtf8 place bytes) e = tt

pub take_leads : (s : State) → Leads (λ o t. Lower (count o) s t) (take s)
take_leads s = given_leads s (next (cats_of s.world) (end_of s.world) s.rest s.place) refl
