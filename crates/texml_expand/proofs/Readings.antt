-- Readings by depth: what some depth decides each deeper one does, and some depth decides.
use Rattle.std.proofs.Common.{◌≡◌, ◌+◌, ◌≤◌, ℕ, suc, refl, sym, ap, ◌∙◌, subst, arith}
use Rattle.texml_expand.specs.State.{State, End, Gains, Answer, Done, Ended, Unfinished, Reading, after, chain, IsDecided}
use Rattle.texml_expand.specs.Contract.{DecidesOn}
pub use Rattle.texml_expand.proofs.Deciding.{after_decided, decided_after}

-- b is what a is, once a is decided
pub record Grows {A : Type 0} (a b : Answer A) : Type 0 where
  pub same : IsDecided a → b ≡ a

pub grows_refl : {A : Type 0} (a : Answer A) → Grows a a
grows_refl a = record { same = λ _. refl }

pub grows_trans : {A : Type 0} {a b c : Answer A} → Grows a b → Grows b c → Grows a c
grows_trans {a = a} {b = b} g h = record { same = λ d. h.same (subst IsDecided (sym (g.same d)) d) ∙ g.same d }

pub chain_grows : {A B : Type 0} {a a' : Answer A} {f f' : A → Reading B} → Grows a a' → ((v : A) (s : State) → Grows (f v s) (f' v s)) → Grows (chain a f) (chain a' f')
chain_grows {a = Done v s gains} {a' = a'} {f = f} {f' = f'} g h = record {
  same = λ d. ap (λ x. chain x f') (g.same tt) ∙ ap (after gains) ((h v s).same (after_decided gains (f v s) d));
}
chain_grows {a = Ended e gains} {a' = a'} {f = f} {f' = f'} g h = record { same = λ d. ap (λ x. chain x f') (g.same tt) }
chain_grows {a = Unfinished gains} g h = record { same = λ d. absurd d }

-- a reading that grows with the depth
pub record Mono {A : Type 0} (r : ℕ → Answer A) : Type 0 where
  pub grows : (n m : ℕ) → n ≤ m → Grows (r n) (r m)

pub mono_same : {A : Type 0} (a : Answer A) → Mono (λ n. a)
mono_same a = record { grows = λ n m le. grows_refl a }

pub mono_chain : {A B : Type 0} (a : ℕ → Answer A) (f : ℕ → A → Reading B) → Mono a → ((v : A) (s : State) → Mono (λ n. f n v s)) → Mono (λ n. chain (a n) (f n))
mono_chain a f ma mf = record { grows = λ n m le. chain_grows (ma.grows n m le) (λ v s. (mf v s).grows n m le) }

-- two depths that decide agree
pub agree : {A : Type 0} (r : ℕ → Answer A) → Mono r → (n m : ℕ) → IsDecided (r n) → IsDecided (r m) → r n ≡ r m
agree r mono n m d e = sym ((mono.grows n (n + m) (omega arith)).same d) ∙ (mono.grows m (n + m) (omega arith)).same e

pub decides_one : {A : Type 0} (r : ℕ → Answer A) → Mono r → (x y : Answer A) → DecidesOn r x → DecidesOn r y → x ≡ y
decides_one r mono x y g h = sym g.is ∙ agree r mono g.depth h.depth (subst IsDecided (sym g.is) g.decided) (subst IsDecided (sym h.is) h.decided) ∙ h.is

-- some depth decides
pub record Settles {A : Type 0} (r : ℕ → Answer A) : Type 0 where
  pub at : ℕ
  pub decided : IsDecided (r at)

pub settles_now : {A : Type 0} (r : ℕ → Answer A) → IsDecided (r 0) → Settles r
settles_now r d = record { at = 0; decided = d }

-- one call deeper
pub settles_within : {A : Type 0} (r : ℕ → Answer A) → Settles (λ n. r (suc n)) → Settles r
settles_within r h = record { at = suc h.at; decided = h.decided }

pub settles_of : {A : Type 0} (r : ℕ → Answer A) (x : Answer A) → DecidesOn r x → Settles r
settles_of r x g = record { at = g.depth; decided = subst IsDecided (sym g.is) g.decided }

pub decides_at : {A : Type 0} (r : ℕ → Answer A) (h : Settles r) → DecidesOn r (r h.at)
decides_at r h = record { depth = h.at; is = refl; decided = h.decided }

-- what both decide, their chain does
pub decides_then : {A B : Type 0} (a : ℕ → Answer A) (f : ℕ → A → Reading B) → Mono a → ((v : A) (s : State) → Mono (λ n. f n v s)) → (v : A) (t : State) (gains : Gains) (x : Answer A) (y : Answer B)
    → x ≡ Done v t gains → DecidesOn a x → DecidesOn (λ n. f n v t) y → DecidesOn (λ n. chain (a n) (f n)) (after gains y)
decides_then a f ma mf v t gains x y e g h =
    let deep : ℕ = g.depth + h.depth in
    let first : a deep ≡ Done v t gains = (ma.grows g.depth deep (omega arith)).same (subst IsDecided (sym g.is) g.decided) ∙ g.is ∙ e in
    let second : f deep v t ≡ y = ((mf v t).grows h.depth deep (omega arith)).same (subst IsDecided (sym h.is) h.decided) ∙ h.is in
    record { depth = deep; is = ap (λ z. chain z (f deep)) first ∙ ap (after gains) second; decided = decided_after gains y h.decided }

-- an end that the first decides, their chain does
pub decides_end : {A B : Type 0} (a : ℕ → Answer A) (f : ℕ → A → Reading B) (e : End) (gains : Gains) → DecidesOn a (Ended e gains) → DecidesOn (λ n. chain (a n) (f n)) (Ended e gains)
decides_end a f e gains g = record { depth = g.depth; is = ap (λ z. chain z (f g.depth)) g.is; decided = tt }

-- whatever the first decides, their chain decides something behind it
pub chain_decides : {A B : Type 0} (a : ℕ → Answer A) (f : ℕ → A → Reading B) → Mono a → ((v : A) (s : State) → Mono (λ n. f n v s)) → (x : Answer A) → DecidesOn a x
    → ((v : A) (t : State) (gains : Gains) → x ≡ Done v t gains → Settles (λ n. f n v t)) → (y : Answer B) × DecidesOn (λ n. chain (a n) (f n)) (chain x (λ _ _. y))
chain_decides a f ma mf (Done v t gains) g h =
    let later = h v t gains refl in
    (f later.at v t, decides_then a f ma mf v t gains (Done v t gains) (f later.at v t) refl g (record { depth = later.at; is = refl; decided = later.decided }))
chain_decides a f ma mf (Ended e gains) g h = (Unfinished gains, decides_end a f e gains g)
chain_decides a f ma mf (Unfinished gains) g h = absurd g.decided

-- what follows a value settles where both parts do
pub settles_chain : {A B : Type 0} (a : ℕ → Answer A) (f : ℕ → A → Reading B) → Mono a → ((v : A) (s : State) → Mono (λ n. f n v s)) → (h : Settles a)
    → ((v : A) (s : State) (gains : Gains) → a h.at ≡ Done v s gains → Settles (λ n. f n v s)) → Settles (λ n. chain (a n) (f n))
settles_chain a f ma mf h k =
    let c = chain_decides a f ma mf (a h.at) (decides_at a h) k in
    settles_of (λ n. chain (a n) (f n)) (chain (a h.at) (λ _ _. c.0)) c.1
