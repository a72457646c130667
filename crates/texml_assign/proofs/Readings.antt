-- Readings by the depth of the calls in them: what some depth decides each deeper one does, some depth decides, and no more is left to be read.
use Rattle.std.proofs.Common.{◌≡◌, ℕ, IsTrue, Bool, true, false, if◌then◌else◌, List, Result, Ok, Err, refl, sym, ◌∙◌, subst, arith}
use Rattle.texml_watch.specs.declared.record.Record.{Record}
use Rattle.texml_expand.specs.declared.stop.Stop.{Stop}
use Rattle.texml_expand.specs.declared.stop.Stop.TheVariants as stop
use Rattle.texml_expand.specs.State.{State, Gains, Tex, Limit, Answer, Done, Ended, Unfinished, Reading, after, chain, added, IsDecided, give, fail, change}
use Rattle.texml_expand.specs.Contract.{Lower, Silent, Quiet}
use Rattle.texml_base.specs.Outside.{Shelf}
use Rattle.texml_input.specs.Held.{Source, AreLittle}
use Rattle.texml_expand.specs.Held.{Held, state_of, readers_of}
use Rattle.texml_expand.specs.Spending.{Spent, SpentBy, SpendsBy}
use Rattle.texml_expand.specs.Hearing.{Meets, Follows}
use Rattle.texml_expand.proofs.Leading.{Leads, leads_chain, leads_at, leads_weaker, lower_none, lower_then}
use Rattle.texml_expand.proofs.Deciding.{any, chain_decided}
use Rattle.texml_expand.proofs.Readings.{grows_refl, Mono, mono_chain, Settles, settles_chain, decides_at, decides_one, decides_then, chain_decides}
use Rattle.texml_expand.proofs.Lawful.{By, Lawful as LawfulCalls}
use Rattle.texml_expand.proofs.Levels.{level_falls}
use Rattle.texml_expand.proofs.Total.{mono_at, settles_at}
use Rattle.texml_expand.proofs.Meeting.{meets_then, meets_stop, meets_silent, meets_quiet, part_untold}
use Rattle.texml_expand.proofs.Spending.{added_after, spent_same, spent_err, spent_chain, spent_little, spent_then}
use Rattle.texml_expand.specs.Expand.{ByDepth, level}

-- one reading and then another
abbrev pub chained : {A B : Type 0} → ByDepth A → (A → ByDepth B) → ByDepth B
chained r f n s = chain (r n s) (λ v. f v n)

-- a deeper look answers the same, some depth decides, and no more is left to be read
pub record Lawful {A : Type 0} (r : ByDepth A) : Type 0 where
  pub mono : (s : State) → Mono (λ n. r n s)
  pub settles : (s : State) → Settles (λ n. r n s)
  pub falls : (n : ℕ) (s : State) → Leads (λ v t. Lower 0 s t) (r n s)

-- the same, where perhaps more is left to be read
pub record Sure {A : Type 0} (r : ByDepth A) : Type 0 where
  pub mono : (s : State) → Mono (λ n. r n s)
  pub settles : (s : State) → Settles (λ n. r n s)

pub sure : {A : Type 0} (r : ByDepth A) → Lawful r → Sure r
sure r l = record { mono = l.mono; settles = l.settles }

pub sure_reading : {A : Type 0} (r : Reading A) → ((s : State) → IsDecided (r s)) → Sure (λ n. r)
sure_reading r decided = record { mono = λ s. record { grows = λ n m le. grows_refl (r s) }; settles = λ s. record { at = 0; decided = decided s } }

pub sure_change : (f : State → State) → Sure (λ n. change f)
sure_change f = record { mono = λ s. record { grows = λ n m le. grows_refl (change f s) }; settles = λ s. record { at = 0; decided = tt } }

-- readings without calls: no expansion begins in them, so that the limit doesn't end them

abbrev pub IsUnlimited : {A : Type 0} → Answer A → Type 0
IsUnlimited (Done v t gains) = Unit {0}
IsUnlimited (Ended (Tex f) gains) = Unit {0}
IsUnlimited (Ended (Limit n) gains) = ⊥
IsUnlimited (Unfinished gains) = Unit {0}

unlimited_after : {A : Type 0} (gains : Gains) (a : Answer A) → IsUnlimited a → IsUnlimited (after gains a)
unlimited_after gains (Done v t more) h = tt
unlimited_after gains (Ended (Tex f) more) h = tt
unlimited_after gains (Ended (Limit n) more) h = h
unlimited_after gains (Unfinished more) h = tt

pub unlimited_chain : {A B : Type 0} (a : Answer A) (f : A → Reading B) → IsUnlimited a → ((v : A) (t : State) → IsUnlimited (f v t)) → IsUnlimited (chain a f)
unlimited_chain (Done v t gains) f h go = unlimited_after gains (f v t) (go v t)
unlimited_chain (Ended (Tex e) gains) f h go = tt
unlimited_chain (Ended (Limit n) gains) f h go = h
unlimited_chain (Unfinished gains) f h go = tt

pub record Plain {A : Type 0} (r : Reading A) : Type 0 where
  pub decided : (s : State) → IsDecided (r s)
  pub falls : (s : State) → Leads (λ v t. Lower 0 s t) (r s)
  pub unlimited : (s : State) → IsUnlimited (r s)

pub lawful_plain : {A : Type 0} (r : Reading A) → Plain r → Lawful (λ n. r)
lawful_plain r p = record {
  mono = λ s. record { grows = λ n m le. grows_refl (r s) };
  settles = λ s. record { at = 0; decided = p.decided s };
  falls = λ n s. p.falls s;
}

pub plain_give : {A : Type 0} (v : A) → Plain (give v)
plain_give v = record { decided = λ s. tt; falls = lower_none; unlimited = λ s. tt }

pub plain_fail : (A : Type 0) (code : ℕ) (about : List ℕ) → Plain (fail {A = A} code about)
plain_fail A code about = record { decided = λ s. tt; falls = λ s. tt; unlimited = λ s. tt }

pub plain_change : (f : State → State) → ((s : State) → Lower 0 s (f s)) → Plain (change f)
plain_change f h = record { decided = λ s. tt; falls = h; unlimited = λ s. tt }

pub plain_if : {A : Type 0} (b : Bool) (x y : Reading A) → Plain x → Plain y → Plain (if b then x else y)
plain_if true x y g h = g
plain_if false x y g h = h

-- behind a reading that leaves no more
pub falls_then : {A B : Type 0} (a : Answer A) (f : A → Reading B) (s : State) → Leads (λ v t. Lower 0 s t) a → ((v : A) (t : State) → Leads (λ w u. Lower 0 t u) (f v t)) → Leads (λ w u. Lower 0 s u) (chain a f)
falls_then a f s g h =
    leads_chain (λ v t. Lower 0 s t) (λ w u. Lower 0 s u) a f g
    (λ v t low. leads_weaker (λ w u. Lower 0 t u) (λ w u. Lower 0 s u) (f v t) (λ w u k. lower_then 0 0 0 s t u low k (omega arith)) (h v t))

pub plain_then : {A B : Type 0} (r : Reading A) (f : A → Reading B) → Plain r → ((v : A) → Plain (f v)) → Plain (λ s. chain (r s) f)
plain_then r f g h = record {
  decided = λ s. chain_decided (λ v t. Unit {0}) (r s) f (g.decided s) (any (r s)) (λ v t _. (h v).decided t);
  falls = λ s. falls_then (r s) f s (g.falls s) (λ v t. (h v).falls t);
  unlimited = λ s. unlimited_chain (r s) f (g.unlimited s) (λ v t. (h v).unlimited t);
}

-- a reading that looks at the state first
pub plain_by : {A X : Type 0} (look : State → X) (r : X → Reading A) → ((x : X) → Plain (r x)) → Plain (λ s. r (look s) s)
plain_by look r h = record { decided = λ s. (h (look s)).decided s; falls = λ s. (h (look s)).falls s; unlimited = λ s. (h (look s)).unlimited s }

pub lawful_by : {A X : Type 0} (look : State → X) (r : X → ByDepth A) → ((x : X) → Lawful (r x)) → Lawful (λ n s. r (look s) n s)
lawful_by look r h = record { mono = λ s. (h (look s)).mono s; settles = λ s. (h (look s)).settles s; falls = λ n s. (h (look s)).falls n s }

-- readings that go together

pub lawful_then : {A B : Type 0} (r : ByDepth A) (f : A → ByDepth B) → Lawful r → ((v : A) → Lawful (f v)) → Lawful (chained r f)
lawful_then r f l k = record {
  mono = λ s. mono_chain (λ n. r n s) (λ n v. f v n) (l.mono s) (λ v t. (k v).mono t);
  settles = λ s. settles_chain (λ n. r n s) (λ n v. f v n) (l.mono s) (λ v t. (k v).mono t) (l.settles s) (λ v t gains e. (k v).settles t);
  falls = λ n s. falls_then (r n s) (λ v. f v n) s (l.falls n s) (λ v t. (k v).falls n t);
}

-- readings by calls that are lawful are so by depth
pub lawful_calls : {A : Type 0} (r : By A) → LawfulCalls r → Lawful (λ n. r (level n))
lawful_calls r h = record { mono = λ s. mono_at r h s; settles = λ s. settles_at r h s; falls = λ n s. h.falls (level n) (level_falls n) s }

-- what the code's calls follow
module _ {T : Type 0} (hear part : T → Record → T → Type 0) where
  -- a call that answers, and what follows it
  pub follows_then : {A B : Type 0} (r : ByDepth A) (f : A → ByDepth B) → Lawful r → ((v : A) → Sure (f v)) → (v : A) (x : Result B Stop) (s mid new : State) (a b c : T) → Follows hear part (λ n. r n s) (Ok v) mid a b
      → Follows hear part (λ n. f v n mid) x new b c → Follows hear part (λ n. chained r f n s) x new a c
  follows_then r f l k v x s mid new a b c g h = record {
    answer = after g.meets.gains h.answer;
    given = decides_then (λ n. r n s) (λ n v. f v n) (l.mono s) (λ v t. (k v).mono t) v mid g.meets.gains g.answer h.answer g.meets.is g.given h.given;
    meets = subst (λ y. Meets hear part (chain y (λ _ _. h.answer)) x new a c) g.meets.is (meets_then hear part g.answer (λ _ _. h.answer) v mid x new a b c g.meets h.meets);
  }

  -- a call that stops
  pub follows_stop : {A B : Type 0} (r : ByDepth A) (f : A → ByDepth B) → Lawful r → ((v : A) → Sure (f v)) → (e : Stop) (s new : State) (a b : T) → Follows hear part (λ n. r n s) (Err e) new a b
      → Follows hear part (λ n. chained r f n s) (Err e) new a b
  follows_stop r f l k e s new a b g =
      let c = chain_decides (λ n. r n s) (λ n v. f v n) (l.mono s) (λ v t. (k v).mono t) g.answer g.given (λ v t gains is. (k v).settles t) in
      record { answer = chain g.answer (λ _ _. c.0); given = c.1; meets = meets_stop hear part g.answer (λ _ _. c.0) e new a b g.meets }

  -- a call that asks nothing outside
  pub follows_silent : {A : Type 0} (r : Reading A) → ((s : State) → IsDecided (r s)) → (x : Result A Stop) (s new : State) (a : T) → Silent (r s) x new → Follows hear part (λ n. r s) x new a a
  follows_silent r decided x s new a h = record { answer = r s; given = record { depth = 0; is = refl; decided = decided s }; meets = meets_silent hear part (r s) x new a h }

  -- one that asks files
  pub follows_quiet : {A : Type 0} (r : Reading A) → ((s : State) → IsDecided (r s)) → (x : Result A Stop) (s new : State) (a : T) → Quiet (r s) x new → Follows hear part (λ n. r s) x new a a
  follows_quiet r decided x s new a h = record { answer = r s; given = record { depth = 0; is = refl; decided = decided s }; meets = meets_quiet hear part (r s) x new a h }

  -- what a reading leads to holds behind a call
  pub follows_leads : {A : Type 0} (P : A → State → Type 0) (r : ByDepth A) (v : A) (s new : State) (a b : T) → ((n : ℕ) → Leads P (r n s)) → Follows hear part (λ n. r n s) (Ok v) new a b → P v new
  follows_leads P r v s new a b l g = leads_at P (r g.given.depth s) v new g.meets.gains (g.given.is ∙ g.meets.is) (l g.given.depth)

  pub follows_lower : {A : Type 0} (r : ByDepth A) → Lawful r → (v : A) (s new : State) (a b : T) → Follows hear part (λ n. r n s) (Ok v) new a b → Lower 0 s new
  follows_lower r l v s new a b g = follows_leads (λ v t. Lower 0 s t) r v s new a b (λ n. l.falls n s) g

  -- want of memory may come before anything was told
  pub follows_out : {A : Type 0} (r : ByDepth A) → Lawful r → (s new : State) (a : T) → Follows hear part (λ n. r n s) (Err stop.NoMemory) new a a
  follows_out r l s new a =
      let h = l.settles s in
      record { answer = r h.at s; given = decides_at (λ n. r n s) h; meets = part_untold hear part (r h.at s) a }

-- what the files of the code's calls gave
module _ {T : Type 0} (hear part : T → Record → T → Type 0) where
  -- a call that answers, and what follows it
  pub spent_behind : {A B : Type 0} (r : ByDepth A) (f : A → ByDepth B) → Lawful r → ((v : A) → Sure (f v)) → (v : A) (x : Result B Stop) (first mid : State) (s t u : Shelf) (i j k : List Source) (a b : T) → Follows hear part (λ n. r n first) (Ok v) mid a b
      → SpentBy (λ n. r n first) (Ok v) s t i j → (AreLittle j → SpentBy (λ n. f v n mid) x t u j k) → SpentBy (λ n. chained r f n first) x s u i k
  spent_behind r f l m v x first mid s t u i j k a b g p next =
      let gains = g.meets.gains in
      let is : p.answer ≡ Done v mid gains = decides_one (λ n. r n first) (l.mono first) p.answer g.answer p.given g.given ∙ g.meets.is in
      let paid : Spent (Ok v) s t i j gains = subst (λ y. Spent (Ok v) s t i j (added y)) is p.spent in
      let q = next (spent_little v s t i j gains paid) in
      record {
        answer = after gains q.answer;
        given = decides_then (λ n. r n first) (λ n v. f v n) (l.mono first) (λ v t. (m v).mono t) v mid gains g.answer q.answer g.meets.is g.given q.given;
        spent = subst (Spent x s u i k) (sym (added_after gains q.answer)) (spent_then v x s t u i j k gains (added q.answer) paid (λ small. q.spent));
      }

  pub spends_behind : {A B : Type 0} (r : ByDepth A) (f : A → ByDepth B) → Lawful r → ((v : A) → Sure (f v)) → (v : A) (x : Result B Stop) (old mid new : Held) (s t u : Shelf) (a b : T)
      → (IsTrue s.tells → Follows hear part (λ n. r n (state_of s old)) (Ok v) (state_of t mid) a b) → (IsTrue s.tells → IsTrue t.tells) → SpendsBy (λ n. r n (state_of s old)) (Ok v) s t old mid
      → SpendsBy (λ n. f v n (state_of t mid)) x t u mid new → SpendsBy (λ n. chained r f n (state_of s old)) x s u old new
  spends_behind r f l m v x old mid new s t u a b follows on p q told little =
      spent_behind r f l m v x (state_of s old) (state_of t mid) s t u old.input.sources mid.input.sources new.input.sources a b (follows told) (p told little) (λ small. q (on told) small)

-- a call that stops
pub spent_broken : {A B : Type 0} (r : ByDepth A) (f : A → ByDepth B) → Lawful r → ((v : A) → Sure (f v)) → (e : Stop) (first : State) (s t : Shelf) (i j : List Source) → SpentBy {B = A} (λ n. r n first) (Err e) s t i j → SpentBy {B = B} (λ n. chained r f n first) (Err e) s t i j
spent_broken {A = A} {B = B} r f l k e first s t i j p =
    let c = chain_decides (λ n. r n first) (λ n v. f v n) (l.mono first) (λ v t. (k v).mono t) p.answer p.given (λ v t gains is. (k v).settles t) in
    record { answer = chain p.answer (λ _ _. c.0); given = c.1; spent = spent_chain p.answer (λ _ _. c.0) (Err e) s t i j (spent_err A B e s t i j (added p.answer) p.spent) }

-- one that decides at once
pub spent_decided : {A B : Type 0} (r : Reading A) → ((s : State) → IsDecided (r s)) → (x : Result B Stop) (first : State) (s t : Shelf) (i j : List Source) → Spent x s t i j (added (r first)) → SpentBy (λ n. r first) x s t i j
spent_decided r decided x first s t i j p = record { answer = r first; given = record { depth = 0; is = refl; decided = decided first }; spent = p }

-- files aren't asked
pub spent_settled : {A B : Type 0} (r : ByDepth A) → Lawful r → (x : Result B Stop) (first : State) (shelf : Shelf) (i j : List Source) → readers_of j ≡ readers_of i → AreLittle i → SpentBy (λ n. r n first) x shelf shelf i j
spent_settled r l x first shelf i j same little =
    let h = l.settles first in
    record { answer = r h.at first; given = decides_at (λ n. r n first) h; spent = spent_same x shelf i j (added (r h.at first)) same little }
