-- The one answer of each call, and the equation that it meets. The proofs of code speak of these.
use Rattle.std.proofs.Common.{◌≡◌, ℕ, zero, suc, List, sym, ◌∙◌, subst}
use Rattle.texml_token.specs.Token.{Token}
use Rattle.texml_scan.specs.Grammar.{Remainder}
use Rattle.texml_expand.specs.State.{State, Answer, IsDecided}
use Rattle.texml_expand.specs.Calls.{Expandable, Gathering, Seen, Calls}
use Rattle.texml_expand.specs.Gathering.{gather_by, copy_by}
use Rattle.texml_expand.specs.Quantities.{scan_by}
use Rattle.texml_expand.specs.Expand.{expand_by, fetch_by, level}
use Rattle.texml_expand.specs.Contract.{DecidesOn, Lower}
use Rattle.texml_expand.proofs.Leading.{Leads}
use Rattle.texml_expand.proofs.Readings.{Mono, Settles, agree}
use Rattle.texml_expand.proofs.Lawful.{By, GrowsCalls, CallsFall, Lawful, lawful_mono}
use Rattle.texml_expand.proofs.Levels.{levels, expand_grows, fetch_grows, scan_grows, gather_grows, copy_grows}
use Rattle.texml_expand.proofs.Settle.{settles}

pub total : Calls
total = record {
  fetch = λ s. (level (settles s).fetch.at).fetch s;
  expand = λ t e s. (level ((settles s).expand t e).at).expand t e s;
  scan = λ r seen s. (level ((settles s).scan r seen).at).scan r seen s;
  gather = λ k seen s. (level ((settles s).gather k seen).at).gather k seen s;
  copy = λ t s. (level ((settles s).copy t).at).copy t s;
}

fetch_mono : (s : State) → Mono (λ n. (level n).fetch s)
fetch_mono s = record { grows = λ n m le. (levels.grow n m le).fetch s }

expand_mono : (t : Token) (e : Expandable) (s : State) → Mono (λ n. (level n).expand t e s)
expand_mono t e s = record { grows = λ n m le. (levels.grow n m le).expand t e s }

scan_mono : {V : Type 0} (r : Remainder V) (seen : List Seen) (s : State) → Mono (λ n. (level n).scan r seen s)
scan_mono r seen s = record { grows = λ n m le. (levels.grow n m le).scan r seen s }

gather_mono : (k : Gathering) (seen : List Token) (s : State) → Mono (λ n. (level n).gather k seen s)
gather_mono k seen s = record { grows = λ n m le. (levels.grow n m le).gather k seen s }

copy_mono : (t : Token) (s : State) → Mono (λ n. (level n).copy t s)
copy_mono t s = record { grows = λ n m le. (levels.grow n m le).copy t s }

pub level_total : (n : ℕ) → GrowsCalls (level n) total
unfolding total
level_total n = record {
  fetch = λ s. record { same = λ d. let h = (settles s).fetch in agree (λ n. (level n).fetch s) (fetch_mono s) h.at n h.decided d };
  expand = λ t e s. record { same = λ d. let h = (settles s).expand t e in agree (λ n. (level n).expand t e s) (expand_mono t e s) h.at n h.decided d };
  scan = λ r seen s. record { same = λ d. let h = (settles s).scan r seen in agree (λ n. (level n).scan r seen s) (scan_mono r seen s) h.at n h.decided d };
  gather = λ k seen s. record { same = λ d. let h = (settles s).gather k seen in agree (λ n. (level n).gather k seen s) (gather_mono k seen s) h.at n h.decided d };
  copy = λ t s. record { same = λ d. let h = (settles s).copy t in agree (λ n. (level n).copy t s) (copy_mono t s) h.at n h.decided d };
}

-- each call is its own step

fetch_at : (n : ℕ) (s : State) → IsDecided ((level n).fetch s) → (level n).fetch s ≡ fetch_by total s
fetch_at zero s d = absurd d
fetch_at (suc n) s d = sym ((fetch_grows (level n) total (level_total n) s).same d)

pub fetch_is : (s : State) → total.fetch s ≡ fetch_by total s
unfolding total
fetch_is s = let h = (settles s).fetch in fetch_at h.at s h.decided

expand_at : (n : ℕ) (t : Token) (e : Expandable) (s : State) → IsDecided ((level n).expand t e s) → (level n).expand t e s ≡ expand_by total t e s
expand_at zero t e s d = absurd d
expand_at (suc n) t e s d = sym ((expand_grows (level n) total (level_total n) t e s).same d)

pub expand_is : (t : Token) (e : Expandable) (s : State) → total.expand t e s ≡ expand_by total t e s
unfolding total
expand_is t e s = let h = (settles s).expand t e in expand_at h.at t e s h.decided

scan_at : {V : Type 0} (n : ℕ) (r : Remainder V) (seen : List Seen) (s : State) → IsDecided ((level n).scan r seen s) → (level n).scan r seen s ≡ scan_by total r seen s
scan_at zero r seen s d = absurd d
scan_at (suc n) r seen s d = sym ((scan_grows (level n) total (level_total n) r seen s).same d)

pub scan_is : {V : Type 0} (r : Remainder V) (seen : List Seen) (s : State) → total.scan r seen s ≡ scan_by total r seen s
unfolding total
scan_is r seen s = let h = (settles s).scan r seen in scan_at h.at r seen s h.decided

gather_at : (n : ℕ) (k : Gathering) (seen : List Token) (s : State) → IsDecided ((level n).gather k seen s) → (level n).gather k seen s ≡ gather_by total k seen s
gather_at zero k seen s d = absurd d
gather_at (suc n) k seen s d = sym ((gather_grows (level n) total (level_total n) k seen s).same d)

pub gather_is : (k : Gathering) (seen : List Token) (s : State) → total.gather k seen s ≡ gather_by total k seen s
unfolding total
gather_is k seen s = let h = (settles s).gather k seen in gather_at h.at k seen s h.decided

copy_at : (n : ℕ) (t : Token) (s : State) → IsDecided ((level n).copy t s) → (level n).copy t s ≡ copy_by total t s
copy_at zero t s d = absurd d
copy_at (suc n) t s d = sym ((copy_grows (level n) total (level_total n) t s).same d)

pub copy_is : (t : Token) (s : State) → total.copy t s ≡ copy_by total t s
unfolding total
copy_is t s = let h = (settles s).copy t in copy_at h.at t s h.decided

pub total_falls : CallsFall total
unfolding total
total_falls = record {
  fetch = λ s. (levels.fall (settles s).fetch.at).fetch s;
  expand = λ t e s. (levels.fall ((settles s).expand t e).at).expand t e s;
  scan = λ r seen s. (levels.fall ((settles s).scan r seen).at).scan r seen s;
  gather = λ k seen s. (levels.fall ((settles s).gather k seen).at).gather k seen s;
  copy = λ t s. (levels.fall ((settles s).copy t).at).copy t s;
}

-- what some depth gives is the answer, and the answer is what some depth gives

abbrev pub at_depth : {A : Type 0} → By A → State → ℕ → Answer A
at_depth r s n = r (level n) s

pub settles_at : {A : Type 0} (r : By A) → Lawful r → (s : State) → Settles (at_depth r s)
settles_at r h s = h.settles levels s (λ t low. settles t)

pub mono_at : {A : Type 0} (r : By A) → Lawful r → (s : State) → Mono (at_depth r s)
mono_at r h s = lawful_mono r h levels s

pub answer_given : {A : Type 0} (r : By A) → Lawful r → (s : State) (a : Answer A) → DecidesOn (at_depth r s) a → r total s ≡ a
answer_given r h s a g = (h.grows (level g.depth) total (level_total g.depth) s).same (subst IsDecided (sym g.is) g.decided) ∙ g.is

pub gives_answer : {A : Type 0} (r : By A) → Lawful r → (s : State) → DecidesOn (at_depth r s) (r total s)
gives_answer r h s =
    let d = settles_at r h s in
    let same = (h.grows (level d.at) total (level_total d.at) s).same d.decided in
    record { depth = d.at; is = sym same; decided = subst IsDecided (sym same) d.decided }

-- no more is left to be read behind it
pub answer_falls : {A : Type 0} (r : By A) → Lawful r → (s : State) → Leads (λ v t. Lower 0 s t) (r total s)
answer_falls r h s = h.falls total total_falls s
