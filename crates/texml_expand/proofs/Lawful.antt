-- Readings by calls that are lawful: what calls decide deeper calls do, no more is left to be read, and some depth decides where the calls in them do.
use Rattle.std.proofs.Common.{◌≡◌, ◌+◌, ◌<◌, ◌≤◌, ℕ, Bool, true, false, if◌then◌else◌, List, [], length, arith}
use Rattle.texml_token.specs.Token.{Token}
use Rattle.texml_scan.specs.Grammar.{Remainder}
use Rattle.texml_expand.specs.State.{State, room, Answer, Reading, chain, IsDecided, give, fail, change}
use Rattle.texml_expand.specs.Calls.{Expandable, Gathering, Seen, Calls}
use Rattle.texml_expand.specs.Contract.{Lower, Begins}
use Rattle.texml_expand.proofs.Leading.{Leads, leads_chain, leads_at, leads_weaker, count, lower_none, lower_then, lower_less, begins_lower}
use Rattle.texml_expand.proofs.Readings.{Grows, grows_refl, chain_grows, Mono, Settles, settles_now, settles_chain}

abbrev pub By : Type 0 → Type 1
By A = Calls → Reading A

-- each call grows
pub record GrowsCalls (c c' : Calls) : Type 1 where
  pub fetch : (s : State) → Grows (c.fetch s) (c'.fetch s)
  pub expand : (t : Token) (e : Expandable) (s : State) → Grows (c.expand t e s) (c'.expand t e s)
  pub scan : {V : Type 0} (g : Remainder V) (seen : List Seen) (s : State) → Grows (c.scan g seen s) (c'.scan g seen s)
  pub gather : (g : Gathering) (seen : List Token) (s : State) → Grows (c.gather g seen s) (c'.gather g seen s)
  pub copy : (t : Token) (s : State) → Grows (c.copy t s) (c'.copy t s)

-- t comes after s, and where no expansion began at most k tokens more are left to read: those that were held before
pub record Returns (k : ℕ) (s t : State) : Type 0 where
  pub limit : t.limit ≡ s.limit
  pub nesting : t.nesting ≡ s.nesting
  pub begun : s.begun ≤ t.begun
  pub size : t.begun ≡ s.begun → room t ≤ room s + k
  pub within : s.begun < t.begun → t.begun ≤ t.limit

-- what is left to be read behind each call
pub record CallsFall (c : Calls) : Type 1 where
  pub fetch : (s : State) → Leads (λ o t. Lower (count o) s t) (c.fetch s)
  pub expand : (t : Token) (e : Expandable) (s : State) → Leads (λ v u. Begins s u) (c.expand t e s)
  pub scan : {V : Type 0} (g : Remainder V) (seen : List Seen) (s : State) → Leads (λ v t. Returns (length seen) s t) (c.scan g seen s)
  pub gather : (g : Gathering) (seen : List Token) (s : State) → Leads (λ v t. Lower 0 s t) (c.gather g seen s)
  pub copy : (t : Token) (s : State) → Leads (λ v u. Begins s u) (c.copy t s)

-- calls by depth
pub record Levels : Type 1 where
  pub at : ℕ → Calls
  pub grow : (n m : ℕ) → n ≤ m → GrowsCalls (at n) (at m)
  pub fall : (n : ℕ) → CallsFall (at n)

-- each call from this state settles
pub record AllSettle (l : Levels) (s : State) : Type 1 where
  pub fetch : Settles (λ n. (l.at n).fetch s)
  pub expand : (t : Token) (e : Expandable) → Settles (λ n. (l.at n).expand t e s)
  pub scan : {V : Type 0} (g : Remainder V) (seen : List Seen) → Settles (λ n. (l.at n).scan g seen s)
  pub gather : (g : Gathering) (seen : List Token) → Settles (λ n. (l.at n).gather g seen s)
  pub copy : (t : Token) → Settles (λ n. (l.at n).copy t s)

pub record Lawful {A : Type 0} (r : By A) : Type 1 where
  pub grows : (c c' : Calls) → GrowsCalls c c' → (s : State) → Grows (r c s) (r c' s)
  pub falls : (c : Calls) → CallsFall c → (s : State) → Leads (λ v t. Lower 0 s t) (r c s)
  pub settles : (l : Levels) (s : State) → ((t : State) → Lower 0 s t → AllSettle l t) → Settles (λ n. r (l.at n) s)

pub lawful_mono : {A : Type 0} (r : By A) → Lawful r → (l : Levels) (s : State) → Mono (λ n. r (l.at n) s)
lawful_mono r h l s = record { grows = λ n m le. h.grows (l.at n) (l.at m) (l.grow n m le) s }

-- Readings without calls

pub lawful_silent : {A : Type 0} (r : Reading A) → ((s : State) → IsDecided (r s)) → ((s : State) → Leads (λ v t. Lower 0 s t) (r s)) → Lawful (λ c. r)
lawful_silent r decided falls = record {
  grows = λ c c' g s. grows_refl (r s);
  falls = λ c f s. falls s;
  settles = λ l s h. settles_now (λ n. r s) (decided s);
}

pub lawful_give : {A : Type 0} (v : A) → Lawful (λ c. give v)
lawful_give v = lawful_silent (give v) (λ s. tt) lower_none

pub lawful_fail : (A : Type 0) (code : ℕ) (about : List ℕ) → Lawful (λ c. fail {A = A} code about)
lawful_fail A code about = lawful_silent (fail {A = A} code about) (λ s. tt) (λ s. tt)

pub lawful_if : {A : Type 0} (b : Bool) (r q : By A) → Lawful r → Lawful q → Lawful (λ c. if b then r c else q c)
lawful_if true r q g h = record { grows = g.grows; falls = g.falls; settles = g.settles }
lawful_if false r q g h = record { grows = h.grows; falls = h.falls; settles = h.settles }

-- a reading that looks at the state first
pub lawful_by : {A X : Type 0} (look : State → X) (r : X → By A) → ((x : X) → Lawful (r x)) → Lawful (λ c s. r (look s) c s)
lawful_by look r h = record {
  grows = λ c c' g s. (h (look s)).grows c c' g s;
  falls = λ c f s. (h (look s)).falls c f s;
  settles = λ l s k. (h (look s)).settles l s k;
}

-- the state changes, and no more is left to be read
pub lawful_change : (f : State → State) → ((s : State) → Lower 0 s (f s)) → Lawful (λ c. change f)
lawful_change f falls = lawful_silent (change f) (λ s. tt) falls

-- One reading after the other

-- what a call leaves, and what the next one leaves behind it
pub leads_on : {B : Type 0} (k : ℕ) (s t : State) (a : Answer B) → Lower k s t → Leads (λ w u. Lower 0 t u) a → Leads (λ w u. Lower 0 s u) a
leads_on k s t a low = leads_weaker (λ w u. Lower 0 t u) (λ w u. Lower 0 s u) a (λ w u l. lower_then k 0 0 s t u low l (omega arith))

pub lawful_then : {A B : Type 0} (r : By A) (q : A → By B) → Lawful r → ((v : A) → Lawful (q v)) → Lawful (λ c s. chain (r c s) (λ v. q v c))
lawful_then r q g h = record {
  grows = λ c c' k s. chain_grows (g.grows c c' k s) (λ v t. (h v).grows c c' k t);
  falls = λ c f s. leads_chain (λ v t. Lower 0 s t) (λ w u. Lower 0 s u) (r c s) (λ v. q v c) (g.falls c f s) (λ v t low. leads_on 0 s t (q v c t) low ((h v).falls c f t));
  settles = λ l s k.
      let first = g.settles l s k in
      settles_chain (λ n. r (l.at n) s) (λ n v. q v (l.at n)) (lawful_mono r g l s) (λ v t. lawful_mono (q v) (h v) l t) first
      (λ v t gains e.
      let low = leads_at (λ v t. Lower 0 s t) (r (l.at first.at) s) v t gains e (g.falls (l.at first.at) (l.fall first.at) s) in
      (h v).settles l t (λ u more. k u (lower_then 0 0 0 s t u low more (omega arith))));
}

-- Calls

pub begins_less : (s t : State) → Begins s t → Lower 0 s t
begins_less s t b = begins_lower 0 0 s t t b (lower_none t)

pub lawful_fetch : Lawful (λ c. c.fetch)
lawful_fetch = record {
  grows = λ c c' g s. g.fetch s;
  falls = λ c f s. leads_weaker (λ o t. Lower (count o) s t) (λ o t. Lower 0 s t) (c.fetch s) (λ o t. lower_less (count o) s t) (f.fetch s);
  settles = λ l s h. (h s (lower_none s)).fetch;
}

pub lawful_expand : (t : Token) (e : Expandable) → Lawful (λ c. c.expand t e)
lawful_expand t e = record {
  grows = λ c c' g s. g.expand t e s;
  falls = λ c f s. leads_weaker (λ v u. Begins s u) (λ v u. Lower 0 s u) (c.expand t e s) (λ v u. begins_less s u) (f.expand t e s);
  settles = λ l s h. (h s (lower_none s)).expand t e;
}

returns_lower : (s t : State) → Returns 0 s t → Lower 0 s t
returns_lower s t r = record { limit = r.limit; nesting = r.nesting; begun = r.begun; size = λ e. let l = r.size e in omega arith; within = r.within }

pub lawful_scan : {V : Type 0} (g : Remainder V) → Lawful (λ c. c.scan g [])
lawful_scan g = record {
  grows = λ c c' k s. k.scan g [] s;
  falls = λ c f s. leads_weaker (λ v t. Returns 0 s t) (λ v t. Lower 0 s t) (c.scan g [] s) (λ v t. returns_lower s t) (f.scan g [] s);
  settles = λ l s h. (h s (lower_none s)).scan g [];
}

pub lawful_gather : (g : Gathering) → Lawful (λ c. c.gather g [])
lawful_gather g = record {
  grows = λ c c' k s. k.gather g [] s;
  falls = λ c f s. f.gather g [] s;
  settles = λ l s h. (h s (lower_none s)).gather g [];
}

pub lawful_copy : (t : Token) → Lawful (λ c. c.copy t)
lawful_copy t = record {
  grows = λ c c' k s. k.copy t s;
  falls = λ c f s. leads_weaker (λ v u. Begins s u) (λ v u. Lower 0 s u) (c.copy t s) (λ v u. begins_less s u) (f.copy t s);
  settles = λ l s h. (h s (lower_none s)).copy t;
}
