-- What files gave in calls that go together.
use Rattle.std.proofs.Common.{◌≡◌, ◌+◌, ◌≤◌, ℕ, Bool, false, IsTrue, List, [], ◌∷◌, length, length-append, sum_by, append_assoc, append-nil, Result, Ok, Err, refl, sym, ap, ◌∙◌, subst, arith}
use Rattle.std.proofs.lemmas.List.Sums.{sum_by-append, sum_by-cons}
use Rattle.texml_base.specs.Rising.{add_up}
use Rattle.texml_base.specs.Outside.{Shelf}
use Rattle.texml_text.specs.Reader.{Reader, fresh_reader, block}
use Rattle.texml_text.proofs.Filling.{add_up_twice}
use Rattle.texml_input.specs.Held.{Source, Plain, Marked, File, Fence, ids_of, ahead_of, AreLittle}
use Rattle.texml_expand.specs.declared.stop.Stop.{Stop}
use Rattle.texml_expand.specs.declared.stop.Stop.TheVariants as stop
use Rattle.texml_expand.specs.State.{State, Gains, bytes_in, nothing, ◌⊕◌, Answer, Done, Ended, Unfinished, Reading, after, chain, added}
use Rattle.texml_expand.specs.Held.{Held, readers_of, SameFiles, ok_at}
use Rattle.texml_expand.specs.Spending.{MayBreak, AreLittleIf, Spent, Spends}

-- Files that are the same

abbrev held_by : Reader → ℕ
held_by r = length r.held

ahead_by : (s : List Source) → ahead_of s ≡ sum_by held_by (readers_of s)
ahead_by [] = refl
ahead_by (Plain t ∷ s) = ahead_by s
ahead_by (Marked t ∷ s) = ahead_by s
ahead_by (File f ∷ s) = let h = ahead_by s in omega (arith, sum_by-cons held_by f.reader (readers_of s))
ahead_by (Fence ∷ s) = ahead_by s

ids_by : (s : List Source) → length (ids_of s) ≡ length (readers_of s)
ids_by [] = refl
ids_by (Plain t ∷ s) = ids_by s
ids_by (Marked t ∷ s) = ids_by s
ids_by (File f ∷ s) = let h = ids_by s in omega arith
ids_by (Fence ∷ s) = ids_by s

abbrev HoldLittle : List Reader → Type 0
HoldLittle [] = Unit {0}
HoldLittle (r ∷ rs) = (length r.held ≤ block) × HoldLittle rs

little_to : (s : List Source) → AreLittle s → HoldLittle (readers_of s)
little_to [] h = tt
little_to (Plain t ∷ s) h = little_to s h
little_to (Marked t ∷ s) h = little_to s h
little_to (File f ∷ s) h = (h.0, little_to s h.1)
little_to (Fence ∷ s) h = little_to s h

little_from : (s : List Source) → HoldLittle (readers_of s) → AreLittle s
little_from [] h = tt
little_from (Plain t ∷ s) h = little_from s h
little_from (Marked t ∷ s) h = little_from s h
little_from (File f ∷ s) h = (h.0, little_from s h.1)
little_from (Fence ∷ s) h = little_from s h

pub little_same : (a b : List Source) → readers_of b ≡ readers_of a → AreLittle a → AreLittle b
little_same a b e h = little_from b (subst HoldLittle (sym e) (little_to a h))

pub not_broken : {A : Type 0} (r : Result A Stop) → MayBreak r false
not_broken (Ok v) = refl
not_broken (Err (stop.Tex f)) = refl
not_broken (Err (stop.Limit n)) = refl
not_broken (Err stop.ReadFailed) = tt
not_broken (Err stop.TellFailed) = refl
not_broken (Err stop.NoMemory) = tt

-- no file is read
pub spent_still : {A : Type 0} (r : Result A Stop) (s t : Shelf) (a b : List Source) (gains : Gains) → t.total ≡ s.total → readers_of b ≡ readers_of a → AreLittle a → Spent r s t a b gains
spent_still r s t a b gains still e h = record {
  loaded = 0;
  opened = 0;
  breaks = false;
  may = not_broken r;
  within = omega arith;
  files = omega arith;
  given = 0;
  total = still ∙ omega arith;
  balance = let ahead = ahead_by b ∙ ap (sum_by held_by) e ∙ sym (ahead_by a) in let ids = ids_by b ∙ ap length e ∙ sym (ids_by a) in omega (arith, ahead, ids);
  little = little_same a b e h;
}

pub spent_same : {A : Type 0} (r : Result A Stop) (shelf : Shelf) (a b : List Source) (gains : Gains) → readers_of b ≡ readers_of a → AreLittle a → Spent r shelf shelf a b gains
spent_same r shelf a b gains e h = spent_still r shelf shelf a b gains refl e h

-- a file is opened, and nothing is read of it
pub spent_opened : {A : Type 0} (r : Result A Stop) (s t : Shelf) (a b : List Source) (gains : Gains) (id : ℕ) → t.total ≡ s.total → readers_of b ≡ fresh_reader id ∷ readers_of a → AreLittle a → 1 ≤ length gains.opened
    → Spent r s t a b gains
spent_opened r s t a b gains id still e h some = record {
  loaded = 0;
  opened = 1;
  breaks = false;
  may = not_broken r;
  within = omega arith;
  files = omega (arith, some);
  given = 0;
  total = still ∙ omega arith;
  balance =
      let ahead = ahead_by b ∙ ap (sum_by held_by) e ∙ sum_by-cons held_by (fresh_reader id) (readers_of a) in
      let before = ahead_by a in
      let ids = ids_by b ∙ ap length e in
      let was = ids_by a in
      omega (arith, ahead, before, ids, was);
  little = little_from b (subst HoldLittle (sym e) (omega arith, little_to a h));
}

-- Gains

-- gains go together in any order of the steps, and none adds none
pub plus_assoc : (g h k : Gains) → (g ⊕ h) ⊕ k ≡ g ⊕ (h ⊕ k)
plus_assoc g h k = λ i. record { records = append_assoc g.records h.records k.records i; loaded = append_assoc g.loaded h.loaded k.loaded i; opened = append_assoc g.opened h.opened k.opened i }

pub plus_nothing : (g : Gains) → g ⊕ nothing ≡ g
plus_nothing g = λ i. record { records = append-nil g.records i; loaded = append-nil g.loaded i; opened = append-nil g.opened i }

pub bytes_plus : (g h : Gains) → bytes_in (g ⊕ h) ≡ bytes_in g + bytes_in h
bytes_plus g h = sum_by-append (λ n. n) g.loaded h.loaded

pub opened_plus : (g h : Gains) → length (g ⊕ h).opened ≡ length g.opened + length h.opened
opened_plus g h = length-append g.opened h.opened

-- more is gained
pub spent_more : {A : Type 0} (r : Result A Stop) (s t : Shelf) (a b : List Source) (g h : Gains) → bytes_in g ≤ bytes_in h → length g.opened ≤ length h.opened → Spent r s t a b g → Spent r s t a b h
spent_more r s t a b g h le few p = record {
  loaded = p.loaded;
  opened = p.opened;
  breaks = p.breaks;
  may = p.may;
  within = omega (arith, p.within, le);
  files = omega (arith, p.files, few);
  given = p.given;
  total = p.total;
  balance = p.balance;
  little = p.little;
}

-- what broke off doesn't depend on the value
breaks_as : (A B : Type 0) (e : Stop) (b : Bool) → MayBreak {A = A} (Err e) b → MayBreak {A = B} (Err e) b
breaks_as A B (stop.Tex f) b h = h
breaks_as A B (stop.Limit n) b h = h
breaks_as A B stop.ReadFailed b h = h
breaks_as A B stop.TellFailed b h = h
breaks_as A B stop.NoMemory b h = h

pub spent_err : (A B : Type 0) (e : Stop) (s t : Shelf) (a b : List Source) (g : Gains) → Spent {A = A} (Err e) s t a b g → Spent {A = B} (Err e) s t a b g
spent_err A B e s t a b g p = record {
  loaded = p.loaded;
  opened = p.opened;
  breaks = p.breaks;
  may = breaks_as A B e p.breaks p.may;
  within = p.within;
  files = p.files;
  given = p.given;
  total = p.total;
  balance = p.balance;
  little = p.little;
}

pub spent_ok : {A B : Type 0} (v : A) (w : B) (s t : Shelf) (a b : List Source) (g : Gains) → Spent (Ok v) s t a b g → Spent (Ok w) s t a b g
spent_ok v w s t a b g p = record {
  loaded = p.loaded;
  opened = p.opened;
  breaks = p.breaks;
  may = p.may;
  within = p.within;
  files = p.files;
  given = p.given;
  total = p.total;
  balance = p.balance;
  little = p.little;
}

pub spent_at : {A B : Type 0} (at : A → B) (r : Result A Stop) (s t : Shelf) (a b : List Source) (g : Gains) → Spent r s t a b g → Spent (ok_at at r) s t a b g
spent_at at (Ok v) s t a b g p = spent_ok v (at v) s t a b g p
spent_at {A = A} {B = B} at (Err e) s t a b g p = spent_err A B e s t a b g p

-- few bytes are ahead behind a value
pub spent_little : {A : Type 0} (v : A) (s t : Shelf) (a b : List Source) (g : Gains) → Spent (Ok v) s t a b g → AreLittle b
spent_little v s t a b g p = subst (λ x. AreLittleIf x b) p.may p.little

-- a call that was well, behind which another one fails
pub spent_fails : {A B : Type 0} (v : A) (e : Stop) (s t : Shelf) (a b : List Source) (g : Gains) → Spent (Ok v) s t a b g → Spent {A = B} (Err e) s t a b g
spent_fails {B = B} v e s t a b g p = record {
  loaded = p.loaded;
  opened = p.opened;
  breaks = p.breaks;
  may = subst (MayBreak {A = B} (Err e)) (sym p.may) (not_broken {A = B} (Err e));
  within = p.within;
  files = p.files;
  given = p.given;
  total = p.total;
  balance = p.balance;
  little = p.little;
}

-- a call, and what follows it
pub spent_then : {A B : Type 0} (v : A) (r : Result B Stop) (s t u : Shelf) (a b c : List Source) (g h : Gains) → Spent (Ok v) s t a b g → (AreLittle b → Spent r t u b c h) → Spent r s u a c (g ⊕ h)
spent_then v r s t u a b c g h p next =
    let q = next (spent_little v s t a b g p) in
    record {
      loaded = p.loaded + q.loaded;
      opened = p.opened + q.opened;
      breaks = q.breaks;
      may = q.may;
      within = omega (arith, p.within, q.within, bytes_plus g h);
      files = omega (arith, p.files, q.files, opened_plus g h);
      given = p.given + q.given;
      total = q.total ∙ ap (λ k. add_up k q.given) p.total ∙ add_up_twice s.total p.given q.given;
      balance = omega (arith, p.balance, q.balance);
      little = q.little;
    }

-- Answers

pub added_after : {A : Type 0} (gains : Gains) (a : Answer A) → added (after gains a) ≡ gains ⊕ added a
added_after gains (Done v s more) = refl
added_after gains (Ended e more) = refl
added_after gains (Unfinished more) = refl

-- one reading, and what follows two of them
pub after_after : {A : Type 0} (g h : Gains) (x : Answer A) → after g (after h x) ≡ after (g ⊕ h) x
after_after g h (Done a s more) = ap (λ m. Done a s m) (sym (plus_assoc g h more))
after_after g h (Ended e more) = ap (λ m. Ended e m) (sym (plus_assoc g h more))
after_after g h (Unfinished more) = ap (λ m. Unfinished m) (sym (plus_assoc g h more))

pub chain_after : {A B : Type 0} (g : Gains) (x : Answer A) (k : A → Reading B) → chain (after g x) k ≡ after g (chain x k)
chain_after g (Done a s more) k = sym (after_after g more (k a s))
chain_after g (Ended e more) k = refl
chain_after g (Unfinished more) k = refl

-- what a first part loads and opens, the whole does
pub bytes_chain : {A B : Type 0} (x : Answer A) (k : A → Reading B) → bytes_in (added x) ≤ bytes_in (added (chain x k))
bytes_chain (Done v s gains) k = omega (arith, ap bytes_in (added_after gains (k v s)), bytes_plus gains (added (k v s)))
bytes_chain (Ended e gains) k = omega arith
bytes_chain (Unfinished gains) k = omega arith

pub opened_chain : {A B : Type 0} (x : Answer A) (k : A → Reading B) → length (added x).opened ≤ length (added (chain x k)).opened
opened_chain (Done v s gains) k = omega (arith, ap (λ (g : Gains). length g.opened) (added_after gains (k v s)), opened_plus gains (added (k v s)))
opened_chain (Ended e gains) k = omega arith
opened_chain (Unfinished gains) k = omega arith

pub spent_chain : {A B C : Type 0} (x : Answer A) (k : A → Reading B) (r : Result C Stop) (s t : Shelf) (a b : List Source) → Spent r s t a b (added x) → Spent r s t a b (added (chain x k))
spent_chain x k r s t a b p = spent_more r s t a b (added x) (added (chain x k)) (bytes_chain x k) (opened_chain x k) p

pub spent_along : {A B : Type 0} (x y : Answer A) (r : Result B Stop) (s t : Shelf) (a b : List Source) → y ≡ x → Spent r s t a b (added x) → Spent r s t a b (added y)
spent_along x y r s t a b e p = subst (λ z. Spent r s t a b (added z)) (sym e) p

-- the part that is done, and what follows it
pub spent_done : {A B : Type 0} (x : Answer A) (k : A → Reading B) (v : A) (now : State) (gains : Gains) (r : Result B Stop) (s t u : Shelf) (a b c : List Source) → x ≡ Done v now gains → Spent (Ok v) s t a b (added x)
    → (AreLittle b → Spent r t u b c (added (k v now))) → Spent r s u a c (added (chain x k))
spent_done x k v now gains r s t u a b c e p next =
    spent_along (after gains (k v now)) (chain x k) r s u a c (ap (λ y. chain y k) e)
    (subst (λ g. Spent r s u a c g) (sym (added_after gains (k v now))) (spent_then v r s t u a b c gains (added (k v now)) (subst (λ y. Spent (Ok v) s t a b (added y)) e p) next))

-- Calls

pub spends_same : {A B : Type 0} (x : Answer A) (r : Result B Stop) (shelf : Shelf) (old new : Held) → SameFiles old new → Spends x r shelf shelf old new
spends_same x r shelf old new same told little = spent_same r shelf old.input.sources new.input.sources (added x) same.readers little

pub spends_as : {A B : Type 0} (x y : Answer A) (r : Result B Stop) (s t : Shelf) (old new : Held) → y ≡ x → Spends x r s t old new → Spends y r s t old new
spends_as x y r s t old new e p told little = spent_along x y r s t old.input.sources new.input.sources e (p told little)

pub spends_stop : {A B : Type 0} (x : Answer A) (k : A → Reading B) (e : Stop) (s t : Shelf) (old new : Held) → Spends {B = A} x (Err e) s t old new → Spends {B = B} (chain x k) (Err e) s t old new
spends_stop {A = A} {B = B} x k e s t old new p told little =
    spent_chain x k (Err e) s t old.input.sources new.input.sources (spent_err A B e s t old.input.sources new.input.sources (added x) (p told little))

pub spends_then : {A B : Type 0} (x : Answer A) (k : A → Reading B) (v : A) (now : State) (r : Result B Stop) (s t u : Shelf) (old mid new : Held) → (IsTrue s.tells → (gains : Gains) × (x ≡ Done v now gains)) → (IsTrue s.tells → IsTrue t.tells)
    → Spends x (Ok v) s t old mid → Spends (k v now) r t u mid new → Spends (chain x k) r s u old new
spends_then x k v now r s t u old mid new done on p q told little =
    let d = done told in
    spent_done x k v now d.0 r s t u old.input.sources mid.input.sources new.input.sources d.1 (p told little) (λ small. q (on told) small)
