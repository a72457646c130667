-- Fetching, expanding, looking at tokens and gathering them by depth: a deeper look answers the same, less is left to be read, and some depth decides.
use Rattle.std.proofs.Common.{◌≡◌, ◌+◌, ◌-◌, ◌<◌, ◌≤◌, ℕ, zero, suc, Bool, true, false, nat_le, if◌then◌else◌, List, [], ◌∷◌, ◌++◌, length, length-append, map, Option, Some, None, refl, ap, ◌∙◌, arith, add-suc, add-zero, inl, inr, eq-or-lt_of_le}
use Rattle.std.proofs.lemmas.Bool.{leb-false, le-leb}
use Rattle.std.specs.Fmt.{signed_decimal}
use Rattle.texml_token.specs.Token.{Token, Char}
use Rattle.texml_token.specs.declared.fault_code.TheConstants.{DEPTH}
use Rattle.texml_scan.specs.declared.looks.Look.TheVariants.{End}
use Rattle.texml_scan.specs.Grammar.{Expanded, Raw, Verdict as Scanned, Wanting, Decided, Faulty, Remainder}
use Rattle.texml_expand.specs.declared.feeding.Verdict.{Verdict}
use Rattle.texml_expand.specs.declared.feeding.Verdict.TheVariants.{TooShort, Yields, Refuses}
use Rattle.texml_expand.specs.declared.gathering.Gathering.TheVariants.{FileName}
use Rattle.texml_input.specs.Rest.{Item, Tok}
use Rattle.texml_expand.specs.State.{State, Tex, Limit, nothing, Answer, Done, Ended, chain, IsDecided, fault_at, give}
use Rattle.texml_expand.specs.Arguments.{called}
use Rattle.texml_expand.specs.Printed.{printed_tokens, roman_text}
use Rattle.texml_expand.specs.Quantities.{Looked, next_looked, look, put_last, decided_on, without_end, scan_token, scan_next, scan_on, scan_by, next_internal, the}
use Rattle.texml_expand.specs.Expansion.{string, job}
use Rattle.texml_expand.specs.Conditionals.{number}
use Rattle.texml_expand.specs.Least.{decided}
use Rattle.texml_expand.specs.Gathering.{judged, at_end, left, gather_on, copies, gather_expansion, gather_front, gather_by, returned, copied, copy_by}
use Rattle.texml_expand.specs.Expand.{Expandable, Call, ExpandAfter, NoExpand, CsName, String, Number, RomanNumeral, The, JobName, Input, EndInput, Conditional, PartEnd, Gathering, Seen, Calls, items_of, Front, Nothing, Plain, Expands, front, begin, decimal, roman_numeral, given, finished, finish, expand_by, fetch_front, fetch_by, step, level}
use Rattle.texml_expand.specs.Calls.{looks}
use Rattle.texml_expand.specs.Contract.{Lower, Begins}
use Rattle.texml_expand.proofs.Calling.{back_lower, called_leads, called_decided}
use Rattle.texml_expand.proofs.Including.{lawful_include, lawful_end_input}
use Rattle.texml_expand.proofs.Leading.{Leads, leads_chain, leads_weaker, count, lower_none, lower_then, lower_less, begins_lower}
use Rattle.texml_expand.proofs.Readings.{Grows, grows_refl, grows_trans, chain_grows}
use Rattle.texml_expand.proofs.Lawful.{GrowsCalls, Returns, CallsFall, Levels, Lawful, lawful_silent, lawful_give, lawful_then}
use Rattle.texml_expand.proofs.Looking.{lawful_looked, looked_leads, lawful_look, lawful_next_internal, lawful_the, put_room}
pub use Rattle.texml_expand.proofs.Standing.{FrontLeads, front_count, front_leads, front_decided}
use Rattle.texml_expand.proofs.Giving.{lawful_puts, lawful_expand_after, lawful_no_expand, lawful_cs_name, lawful_string, lawful_job}
use Rattle.texml_expand.proofs.Branching.{lawful_number, lawful_conditional, lawful_part_end}

-- What an expansion gives

pub lawful_decimal : Lawful decimal
lawful_decimal = lawful_then number (λ i c. give (printed_tokens (signed_decimal i))) lawful_number (λ i. lawful_give (printed_tokens (signed_decimal i)))

pub lawful_roman_numeral : Lawful roman_numeral
lawful_roman_numeral = lawful_then number (λ i c. give (printed_tokens (roman_text i))) lawful_number (λ i. lawful_give (printed_tokens (roman_text i)))

pub lawful_given : (t : Token) (e : Expandable) → Lawful (λ c. given c t e)
lawful_given t (Call m) = lawful_puts (λ c. called m) (lawful_silent (called m) (called_decided m) (called_leads m))
lawful_given t ExpandAfter = lawful_expand_after
lawful_given t NoExpand = lawful_no_expand
lawful_given t CsName = lawful_cs_name
lawful_given t String = lawful_puts (λ c. string) lawful_string
lawful_given t Number = lawful_puts decimal lawful_decimal
lawful_given t RomanNumeral = lawful_puts roman_numeral lawful_roman_numeral
lawful_given t The = lawful_puts the lawful_the
lawful_given t JobName = lawful_puts (λ c. job) lawful_job
lawful_given t Input = lawful_include
lawful_given t EndInput = lawful_end_input
lawful_given t (Conditional test) = lawful_conditional test
lawful_given t (PartEnd word) = lawful_part_end t word

-- Beginning

-- an expansion has begun
abbrev pub Begun : State → Unit {0} → State → Type 0
Begun s v t = (t ≡ record s { begun = s.begun + 1; nesting = s.nesting + 1 }) × (s.begun < s.limit)

abbrev begun_answer : State → Bool → Bool → Answer (Unit {0})
begun_answer s b c =
    if b then Ended (Limit s.limit) nothing
    else if c then Ended (Tex (fault_at DEPTH [] s.place)) nothing
    else Done tt (record s { begun = s.begun + 1; nesting = s.nesting + 1 }) nothing

begun_leads : (s : State) (b c : Bool) → nat_le s.limit s.begun ≡ b → Leads (Begun s) (begun_answer s b c)
begun_leads s true c e = tt
begun_leads s false true e = tt
begun_leads s false false e = (refl, leb-false s.limit s.begun e)

pub begin_leads : (s : State) → Leads (Begun s) (begin s)
begin_leads s = begun_leads s (nat_le s.limit s.begun) (nat_le 400 s.nesting) refl

-- too many are open within each other
pub begin_deep : (s : State) → nat_le s.limit s.begun ≡ false → 400 ≤ s.nesting → begin s ≡ Ended (Tex (fault_at DEPTH [] s.place)) nothing
begin_deep s free deep = ap (λ b. begun_answer s b (nat_le 400 s.nesting)) free ∙ ap (λ c. begun_answer s false c) (le-leb 400 s.nesting deep)

begun_decided : (s : State) (b c : Bool) → IsDecided (begun_answer s b c)
begun_decided s true c = tt
begun_decided s false true = tt
begun_decided s false false = tt

pub begin_decided : (s : State) → IsDecided (begin s)
begin_decided s = begun_decided s (nat_le s.limit s.begun) (nat_le 400 s.nesting)

-- a deeper look answers the same

module _ (c c' : Calls) (g : GrowsCalls c c') where
  pub expand_grows : (t : Token) (e : Expandable) (s : State) → Grows (expand_by c t e s) (expand_by c' t e s)
  expand_grows t e s = chain_grows (grows_refl (begin s)) (λ _ u. chain_grows ((lawful_given t e).grows c c' g u) (λ gift v. grows_refl (finish t gift v)))

  pub copy_grows : (t : Token) (s : State) → Grows (copy_by c t s) (copy_by c' t s)
  copy_grows t s = chain_grows (grows_refl (begin s)) (λ _ u. chain_grows (lawful_next_internal.grows c c' g u) (λ q v. grows_refl (copied t q v)))

  gather_on_grows : (k : Gathering) (seen : List Token) (x : Token) (v : Verdict (List Token)) (s : State) → Grows (gather_on c k seen x v s) (gather_on c' k seen x v s)
  gather_on_grows k seen x TooShort s = g.gather k (seen ++ x ∷ []) s
  gather_on_grows k seen x (Yields v) s = grows_refl _
  gather_on_grows k seen x (Refuses code) s = grows_refl _

  gather_expansion_grows : (k : Gathering) (seen : List Token) (t : Token) (e : Expandable) (b : Bool) (s : State) → Grows (gather_expansion c k seen t e b s) (gather_expansion c' k seen t e b s)
  gather_expansion_grows k seen t e true s = chain_grows (g.copy t s) (λ list u. g.gather k (seen ++ list) u)
  gather_expansion_grows k seen t e false s = chain_grows (g.expand t e s) (λ v u. g.gather k seen u)

  pub gather_front_grows : (k : Gathering) (seen : List Token) (f : Front) (s : State) → Grows (gather_front c k seen f s) (gather_front c' k seen f s)
  gather_front_grows k seen Nothing s = grows_refl _
  gather_front_grows k seen (Plain t) s = gather_on_grows k seen t.token (judged k s.world seen t) s
  gather_front_grows k seen (Expands t e) s = gather_expansion_grows k seen t e (copies k e) s

  pub gather_grows : (k : Gathering) (seen : List Token) (s : State) → Grows (gather_by c k seen s) (gather_by c' k seen s)
  gather_grows k seen s = chain_grows (grows_refl (front s)) (gather_front_grows k seen)

  fetch_front_grows : (f : Front) (s : State) → Grows (fetch_front c f s) (fetch_front c' f s)
  fetch_front_grows Nothing s = grows_refl _
  fetch_front_grows (Plain t) s = grows_refl _
  fetch_front_grows (Expands t e) s = chain_grows (g.expand t e s) (λ _ u. g.fetch u)

  pub fetch_grows : (s : State) → Grows (fetch_by c s) (fetch_by c' s)
  fetch_grows s = chain_grows (grows_refl (front s)) fetch_front_grows

  module _ {V : Type 0} (r : Remainder V) where
    scan_token_grows : (seen : List Seen) (o : Option Looked) (s : State) → Grows (scan_token c r seen o s) (scan_token c' r seen o s)
    scan_token_grows seen None s = grows_refl _
    scan_token_grows seen (Some x) s = chain_grows ((lawful_look r seen x.counts).grows c c' g s) (λ l u. g.scan r (seen ++ record { token = x.token; look = l } ∷ []) u)

    scan_next_grows : (seen : List Seen) (raw : Bool) (s : State) → Grows (scan_next c r seen raw s) (scan_next c' r seen raw s)
    scan_next_grows seen raw s = chain_grows ((lawful_looked raw).grows c c' g s) (scan_token_grows seen)

    scan_on_grows : (seen : List Seen) (v : Scanned V) (s : State) → Grows (scan_on c r seen v s) (scan_on c' r seen v s)
    scan_on_grows seen (Wanting Raw) s = scan_next_grows seen true s
    scan_on_grows seen (Wanting Expanded) s = scan_next_grows seen false s
    scan_on_grows seen v s = grows_refl _

    pub scan_grows : (seen : List Seen) (s : State) → Grows (scan_by c r seen s) (scan_by c' r seen s)
    scan_grows seen s = scan_on_grows seen (r (looks seen)) s

  step_grows : GrowsCalls (step c) (step c')
  step_grows = record { fetch = fetch_grows; expand = expand_grows; scan = λ r seen s. scan_grows r seen s; gather = gather_grows; copy = copy_grows }

level_grows : (n : ℕ) → GrowsCalls (level n) (level (suc n))
level_grows zero = record { fetch = λ s. record { same = λ d. absurd d }; expand = λ t e s. record { same = λ d. absurd d }; scan = λ r seen s. record { same = λ d. absurd d }; gather = λ k seen s. record { same = λ d. absurd d }; copy = λ t s. record { same = λ d. absurd d } }
level_grows (suc n) = step_grows (level n) (level (suc n)) (level_grows n)

grows_calls_trans : {a b c : Calls} → GrowsCalls a b → GrowsCalls b c → GrowsCalls a c
grows_calls_trans g h = record {
  fetch = λ s. grows_trans (g.fetch s) (h.fetch s);
  expand = λ t e s. grows_trans (g.expand t e s) (h.expand t e s);
  scan = λ r seen s. grows_trans (g.scan r seen s) (h.scan r seen s);
  gather = λ k seen s. grows_trans (g.gather k seen s) (h.gather k seen s);
  copy = λ t s. grows_trans (g.copy t s) (h.copy t s);
}

grows_calls_refl : (c : Calls) → GrowsCalls c c
grows_calls_refl c = record { fetch = λ s. grows_refl _; expand = λ t e s. grows_refl _; scan = λ r seen s. grows_refl _; gather = λ k seen s. grows_refl _; copy = λ t s. grows_refl _ }

levels_grow_by : (k n : ℕ) → GrowsCalls (level n) (level (n + k))
levels_grow_by zero n = rw add-zero (grows_calls_refl (level n))
levels_grow_by (suc k) n = rw add-suc (grows_calls_trans (levels_grow_by k n) (level_grows (n + k)))

pub levels_grow : (n m : ℕ) → n ≤ m → GrowsCalls (level n) (level m)
levels_grow n m h =
    let e : n + (m - n) ≡ m = omega arith in
    rw e at (levels_grow_by (m - n) n)

-- less is left to be read

-- a token that ends a name, and goes back
pub left_lower : (k : Gathering) (x : Token) (s t : State) → Lower 1 s t → Lower 0 s (left k x t)
left_lower FileName (Char c category) s t h = lower_less 1 s t h
left_lower FileName x s t h = back_lower x false s t h
left_lower k x s t h = lower_less 1 s t h

decided_falls : (v : Verdict (List Token)) (s t : State) → Lower 0 s t → Leads (λ w u. Lower 0 s u) (decided v t)
decided_falls TooShort s t h = tt
decided_falls (Yields v) s t h = h
decided_falls (Refuses code) s t h = tt

finished_begins : (s t u : State) (items : List (Item Token)) → Begun s tt t → Lower 0 t u → Begins s (finished items u)
finished_begins s t u items h l = record {
  limit = l.limit ∙ ap (λ x. x.limit) h.0;
  nesting = let n = l.nesting ∙ ap (λ (x : State). x.nesting) h.0 in omega arith;
  begun = let b = l.begun in let n = ap (λ (x : State). x.begun) h.0 in omega arith;
  within = elim (eq-or-lt_of_le l.begun) [
    | inl same ↦ omega (arith, h.1, same, l.limit, ap (λ (x : State). x.begun) h.0, ap (λ (x : State). x.limit) h.0)
    | inr later ↦ l.within later
  ];
}

module _ (c : Calls) (calls : CallsFall c) where
  given_leads : (s : State) (tok : Token) (e : Expandable) (t : State) → Begun s tt t → Leads (λ v u. Begins s u) (chain (given c tok e t) (finish tok))
  given_leads s tok e t h =
      leads_chain (λ gift u. Lower 0 t u) (λ v u. Begins s u) (given c tok e t) (finish tok) ((lawful_given tok e).falls c calls t) (λ gift u l. finished_begins s t u (items_of gift) h l)

  expand_leads : (tok : Token) (e : Expandable) (s : State) → Leads (λ v t. Begins s t) (expand_by c tok e s)
  expand_leads tok e s = leads_chain (Begun s) (λ v t. Begins s t) (begin s) _ (begin_leads s) (λ v t h. given_leads s tok e t h)

  internal_leads : (s : State) (tok : Token) (t : State) → Begun s tt t → Leads (λ v u. Begins s u) (chain (next_internal c t) (copied tok))
  internal_leads s tok t h =
      leads_chain (λ q u. Lower 0 t u) (λ v u. Begins s u) (next_internal c t) (copied tok) (lawful_next_internal.falls c calls t) (λ q u l. finished_begins s t u (map Tok (returned q)) h l)

  copy_leads : (tok : Token) (s : State) → Leads (λ v t. Begins s t) (copy_by c tok s)
  copy_leads tok s = leads_chain (Begun s) (λ v t. Begins s t) (begin s) _ (begin_leads s) (λ v t h. internal_leads s tok t h)

  -- gathering goes on behind an expansion, or behind a token
  gather_behind_leads : (k : Gathering) (seen : List Token) (s t u : State) → Lower 1 s t → Begins t u → Leads (λ v w. Lower 0 s w) (c.gather k seen u)
  gather_behind_leads k seen s t u h b =
      leads_weaker (λ v w. Lower 0 u w) (λ v w. Lower 0 s w) (c.gather k seen u) (λ v w l. lower_then 1 0 0 s t w h (begins_lower 0 0 t u w b l) (omega arith)) (calls.gather k seen u)

  gather_expansion_leads : (k : Gathering) (seen : List Token) (s : State) (tok : Token) (e : Expandable) (b : Bool) (t : State) → Lower 1 s t → Leads (λ v u. Lower 0 s u) (gather_expansion c k seen tok e b t)
  gather_expansion_leads k seen s tok e true t h =
      leads_chain (λ list u. Begins t u) (λ v u. Lower 0 s u) (c.copy tok t) (λ list. c.gather k (seen ++ list)) (calls.copy tok t) (λ list u b. gather_behind_leads k (seen ++ list) s t u h b)
  gather_expansion_leads k seen s tok e false t h =
      leads_chain (λ v u. Begins t u) (λ v u. Lower 0 s u) (c.expand tok e t) (λ v. c.gather k seen) (calls.expand tok e t) (λ v u b. gather_behind_leads k seen s t u h b)

  gather_on_leads : (k : Gathering) (seen : List Token) (x : Token) (v : Verdict (List Token)) (s t : State) → Lower 1 s t → Leads (λ v u. Lower 0 s u) (gather_on c k seen x v t)
  gather_on_leads k seen x TooShort s t h =
      leads_weaker (λ v u. Lower 0 t u) (λ v u. Lower 0 s u) (c.gather k (seen ++ x ∷ []) t) (λ v u l. lower_then 1 0 0 s t u h l (omega arith)) (calls.gather k (seen ++ x ∷ []) t)
  gather_on_leads k seen x (Yields v) s t h = left_lower k x s t h
  gather_on_leads k seen x (Refuses code) s t h = tt

  gather_front_leads : (k : Gathering) (seen : List Token) (s : State) (f : Front) (t : State) → Lower (front_count f) s t → Leads (λ v u. Lower 0 s u) (gather_front c k seen f t)
  gather_front_leads k seen s Nothing t h = decided_falls (at_end k seen) s t h
  gather_front_leads k seen s (Plain x) t h = gather_on_leads k seen x.token (judged k t.world seen x) s t h
  gather_front_leads k seen s (Expands tok e) t h = gather_expansion_leads k seen s tok e (copies k e) t h

  gather_leads : (k : Gathering) (seen : List Token) (s : State) → Leads (λ v t. Lower 0 s t) (gather_by c k seen s)
  gather_leads k seen s = leads_chain (FrontLeads s) (λ v t. Lower 0 s t) (front s) (gather_front c k seen) (front_leads s) (gather_front_leads k seen s)

  fetch_on_leads : (s t u : State) → Lower 1 s t → Begins t u → Leads (λ o w. Lower (count o) s w) (c.fetch u)
  fetch_on_leads s t u h b = leads_weaker (λ o w. Lower (count o) u w) (λ o w. Lower (count o) s w) (c.fetch u) (λ o w l. lower_then 1 (count o) (count o) s t w h (begins_lower (count o) (count o) t u w b l) (omega arith)) (calls.fetch u)

  fetch_front_leads : (s : State) (f : Front) (t : State) → Lower (front_count f) s t → Leads (λ o u. Lower (count o) s u) (fetch_front c f t)
  fetch_front_leads s Nothing t h = h
  fetch_front_leads s (Plain x) t h = h
  fetch_front_leads s (Expands tok e) t h = leads_chain (λ v u. Begins t u) (λ o u. Lower (count o) s u) (c.expand tok e t) (λ _. c.fetch) (calls.expand tok e t) (λ v u b. fetch_on_leads s t u h b)

  fetch_leads : (s : State) → Leads (λ o t. Lower (count o) s t) (fetch_by c s)
  fetch_leads s = leads_chain (FrontLeads s) (λ o t. Lower (count o) s t) (front s) (fetch_front c) (front_leads s) (fetch_front_leads s)

  module _ {V : Type 0} (r : Remainder V) where
    put_returns : (n k : ℕ) (seen : List Seen) (s t : State) → Lower k s t → Returns (length seen) s (put_last n seen t)
    put_returns n k seen s t l = record { limit = l.limit; nesting = l.nesting; begun = l.begun; size = λ e. let less = l.size e in let more = put_room n seen t in omega arith; within = l.within }

    decided_leads : (k : ℕ) (seen : List Seen) (v : Scanned V) (s t : State) → Lower k s t → Leads (λ w u. Returns (length seen) s u) (decided_on seen v t)
    decided_leads k seen (Wanting w) s t l = tt
    decided_leads k seen (Decided v n) s t l = put_returns n k seen s t l
    decided_leads k seen (Faulty f) s t l = tt

    more_returns : (seen : List Seen) (x : Seen) (s t u w : State) → Lower 1 s t → Lower 0 t u → Returns (length (seen ++ x ∷ [])) u w → Returns (length seen) s w
    more_returns seen x s t u w l m h =
        let low = lower_then 1 0 1 s t u l m (omega arith) in
        record {
          limit = h.limit ∙ low.limit;
          nesting = h.nesting ∙ low.nesting;
          begun = omega (arith, h.begun, low.begun);
          size = λ e. let a = low.size (omega (arith, h.begun, low.begun, e)) in let b = h.size (omega (arith, h.begun, low.begun, e)) in omega (arith, length-append seen (x ∷ []));
          within = λ lt. elim (eq-or-lt_of_le h.begun) [
            | inl same ↦ (let w : u.begun ≤ u.limit = low.within (omega (arith, lt, same)) in omega (arith, w, same, h.limit))
            | inr later ↦ h.within later
          ];
        }

    look_leads : (seen : List Seen) (x : Looked) (s t : State) → Lower 1 s t → Leads (λ w u. Returns (length seen) s u) (scan_token c r seen (Some x) t)
    look_leads seen x s t l =
        leads_chain (λ k u. Lower 0 t u) (λ w u. Returns (length seen) s u) (look c r seen x.counts t) (λ k. c.scan r (seen ++ record { token = x.token; look = k } ∷ [])) ((lawful_look r seen x.counts).falls c calls t)
        (λ k u m. leads_weaker (λ w z. Returns (length (seen ++ record { token = x.token; look = k } ∷ [])) u z) (λ w z. Returns (length seen) s z) (c.scan r (seen ++ record { token = x.token; look = k } ∷ []) u)
        (λ w z h. more_returns seen (record { token = x.token; look = k }) s t u z l m h) (calls.scan r (seen ++ record { token = x.token; look = k } ∷ []) u))

    token_leads : (seen : List Seen) (s : State) (o : Option Looked) (t : State) → Lower (count o) s t → Leads (λ w u. Returns (length seen) s u) (scan_token c r seen o t)
    token_leads seen s None t l = decided_leads 0 seen (without_end (r (looks seen ++ End ∷ []))) s t l
    token_leads seen s (Some x) t l = look_leads seen x s t l

    scan_next_leads : (seen : List Seen) (raw : Bool) (s : State) → Leads (λ w u. Returns (length seen) s u) (scan_next c r seen raw s)
    scan_next_leads seen raw s = leads_chain (λ o t. Lower (count o) s t) (λ w u. Returns (length seen) s u) (next_looked c raw s) (scan_token c r seen) (looked_leads c calls raw s) (token_leads seen s)

    scan_on_leads : (seen : List Seen) (v : Scanned V) (s : State) → Leads (λ w u. Returns (length seen) s u) (scan_on c r seen v s)
    scan_on_leads seen (Wanting Raw) s = scan_next_leads seen true s
    scan_on_leads seen (Wanting Expanded) s = scan_next_leads seen false s
    scan_on_leads seen v s = decided_leads 0 seen v s s (lower_none s)

    scan_leads : (seen : List Seen) (s : State) → Leads (λ w u. Returns (length seen) s u) (scan_by c r seen s)
    scan_leads seen s = scan_on_leads seen (r (looks seen)) s

  step_falls : CallsFall (step c)
  step_falls = record { fetch = fetch_leads; expand = expand_leads; scan = λ r seen s. scan_leads r seen s; gather = gather_leads; copy = copy_leads }

pub level_falls : (n : ℕ) → CallsFall (level n)
level_falls zero = record { fetch = λ s. tt; expand = λ t e s. tt; scan = λ r seen s. tt; gather = λ k seen s. tt; copy = λ t s. tt }
level_falls (suc n) = step_falls (level n) (level_falls n)

abbrev pub levels : Levels
levels = record { at = level; grow = levels_grow; fall = level_falls }
