-- One quiet reading after the other.
use Rattle.std.proofs.Common.{ℕ, List, [], ◌++◌, Result, Ok, Err, sym, ap, subst}
use Rattle.texml_expand.specs.declared.stop.Stop.{Stop}
use Rattle.texml_expand.specs.declared.stop.Stop.TheVariants as stop
use Rattle.texml_expand.specs.State.{State, loads, Answer, Reading, after, chain}
use Rattle.texml_expand.specs.Contract.{Silent, Quiet}

-- a call that asks nothing
pub quiet_silent : {A : Type 0} (x : Answer A) (r : Result A Stop) (s : State) → Silent x r s → Quiet x r s
quiet_silent x (Ok v) s h = ([], h)
quiet_silent x (Err (stop.Tex n)) s h = ([], h)
quiet_silent x (Err (stop.Limit n)) s h = ([], h)
quiet_silent x (Err stop.ReadFailed) s h = tt
quiet_silent x (Err stop.TellFailed) s h = h
quiet_silent x (Err stop.NoMemory) s h = tt

-- what follows a value
pub quiet_after : {A : Type 0} (sizes : List ℕ) (x : Answer A) (r : Result A Stop) (s : State) → Quiet x r s → Quiet (after (loads sizes) x) r s
quiet_after sizes x (Ok v) s h = (sizes ++ h.0, ap (after (loads sizes)) h.1)
quiet_after sizes x (Err (stop.Tex n)) s h = (sizes ++ h.0, ap (after (loads sizes)) h.1)
quiet_after sizes x (Err (stop.Limit n)) s h = (sizes ++ h.0, ap (after (loads sizes)) h.1)
quiet_after sizes x (Err stop.ReadFailed) s h = tt
quiet_after sizes x (Err stop.TellFailed) s h = h
quiet_after sizes x (Err stop.NoMemory) s h = tt

pub quiet_then : {A B : Type 0} (x : Answer A) (f : A → Reading B) (v : A) (mid : State) (r : Result B Stop) (s : State) → Quiet x (Ok v) mid → Quiet (f v mid) r s → Quiet (chain x f) r s
quiet_then x f v mid r s q h = subst (λ a. Quiet a r s) (sym (ap (λ a. chain a f) q.1)) (quiet_after q.0 (f v mid) r s h)

-- nothing follows an end
pub quiet_stops : {A B : Type 0} (x : Answer A) (f : A → Reading B) (e : Stop) (s t : State) → Quiet x (Err e) s → Quiet (chain x f) (Err e) t
quiet_stops x f (stop.Tex n) s t h = (h.0, ap (λ a. chain a f) h.1)
quiet_stops x f (stop.Limit n) s t h = (h.0, ap (λ a. chain a f) h.1)
quiet_stops x f stop.ReadFailed s t h = tt
quiet_stops x f stop.TellFailed s t h = absurd h
quiet_stops x f stop.NoMemory s t h = tt
