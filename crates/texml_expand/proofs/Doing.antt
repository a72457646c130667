-- Calls that go together: what each does by the one answer of its reading.
use Rattle.std.proofs.Common.{◌≡◌, ℕ, IsTrue, List, None, Some, Result, Ok, Err, refl, sym, subst}
use Rattle.std.specs.Result.{OnOk}
use Rattle.texml_base.specs.Outside.{Shelf}
use Rattle.texml_token.specs.Numbers.{Table}
use Rattle.texml_watch.specs.declared.record.Record.{Record}
use Rattle.texml_expand.specs.declared.stop.Stop.{Stop}
use Rattle.texml_expand.specs.declared.stop.Stop.TheVariants as stop
use Rattle.texml_expand.specs.State.{State, nothing, Tex, Answer, Done, Ended, Reading, chain, give, fault_at}
use Rattle.texml_expand.specs.Expand.{level}
use Rattle.texml_expand.specs.Contract.{Silent, Local, Outside, outside, files_at, Stops, IsFaultAt, stop_after}
use Rattle.texml_expand.specs.Hearing.{Meets}
use Rattle.texml_expand.specs.Held.{Held, place_of, state_of, Sound, Kept, Progress, IsAtLimit, Owns, Holding, SameFiles, ok_at}
use Rattle.texml_expand.specs.Doing.{Does, Gets, Runs}
use Rattle.texml_expand.specs.Spending.{Spends}
use Rattle.texml_expand.proofs.Spending.{spent_along, spends_same, spends_stop, spends_then}
use Rattle.texml_expand.proofs.Lawful.{By, Lawful, lawful_give, lawful_then}
use Rattle.texml_expand.proofs.Total.{total, answer_given, gives_answer}
use Rattle.texml_expand.proofs.Meeting.{meets_then, meets_stop, meets_silent, meets_quiet, part_untold, silent_fails_not}
use Rattle.texml_expand.proofs.Running.{told_on, limit_as, runs_then, runs_stop, runs_local, runs_now, runs_fault, runs_out, runs_untold, gets_runs, files_same, files_stopped}
use Rattle.texml_expand.proofs.Taking.{silent_fault}

-- what stands by numbers of names is the same where the engine is
pub by_new : {A B : Type 0} (at : Table → A → B) (x : Reading B) (r : Result A Stop) (old new : Held) → Local x (ok_at (at old.names) r) old new → OnOk r (new ≡ old) → Local x (ok_at (at new.names) r) old new
by_new at x (Ok v) old new h same = λ shelf. subst (λ (n : Held). x (state_of shelf old) ≡ Done (at n.names v) (state_of shelf new) nothing) (sym same) (h shelf)
by_new at x (Err e) old new h same = h

module _ {T : Type 0} (hear part : T → Record → T → Type 0) where
  -- what a call did, by the answer of a reading
  pub record Did {A : Type 0} (answer : Answer A) (result : Result A Stop) (old new : Held) (before now : Outside) (a b : T) : Type 0 where
    pub meets : IsTrue before.shelf.tells → Meets hear part answer result (state_of now.shelf new) a b
    pub spends : Spends answer result before.shelf now.shelf old new
    pub stops : Stops result before now new.stop
    pub limit : IsAtLimit result new
    pub keeps : OnOk result (Kept old new)
    pub progress : Progress old new
    pub holds : Holding before.shelf now.shelf old new

  pub did_runs : {A : Type 0} (x : Answer A) (result : Result A Stop) (old new : Held) (f g : Outside) (a b : T) → Did x result old new f g a b → Runs result old new f g
  did_runs x result old new f g a b d = record { stops = d.stops; limit = d.limit; keeps = d.keeps; progress = d.progress; holds = d.holds }

  pub did_by : {A : Type 0} (x : Answer A) (result : Result A Stop) (old new : Held) (f g : Outside) (a b : T) → (IsTrue f.shelf.tells → Meets hear part x result (state_of g.shelf new) a b) → Spends x result f.shelf g.shelf old new → Runs result old new f g
      → Did x result old new f g a b
  did_by x result old new f g a b meets spends d = record { meets = meets; spends = spends; stops = d.stops; limit = d.limit; keeps = d.keeps; progress = d.progress; holds = d.holds }

  -- by the depth of the calls in it the same
  pub does_of : {A : Type 0} (r : By A) → Lawful r → (result : Result A Stop) (old new : Held) (f g : Outside) (a b : T) → Did (r total (state_of f.shelf old)) result old new f g a b → Does hear part (λ n. r (level n)) result old new f g a b
  does_of r l result old new f g a b d = record {
    follows = λ told. record { answer = r total (state_of f.shelf old); given = gives_answer r l (state_of f.shelf old); meets = d.meets told };
    spends = λ told little. record { answer = r total (state_of f.shelf old); given = gives_answer r l (state_of f.shelf old); spent = d.spends told little };
    stops = d.stops;
    limit = d.limit;
    keeps = d.keeps;
    progress = d.progress;
    holds = d.holds;
  }

  pub did_of : {A : Type 0} (r : By A) → Lawful r → (result : Result A Stop) (old new : Held) (f g : Outside) (a b : T) → Does hear part (λ n. r (level n)) result old new f g a b → Did (r total (state_of f.shelf old)) result old new f g a b
  did_of r l result old new f g a b d = record {
    meets = λ told.
        let h = d.follows told in
        subst (λ y. Meets hear part y result (state_of g.shelf new) a b) (sym (answer_given r l (state_of f.shelf old) h.answer h.given)) h.meets;
    spends = λ told little.
        let h = d.spends told little in
        spent_along h.answer (r total (state_of f.shelf old)) result f.shelf g.shelf old.input.sources new.input.sources (answer_given r l (state_of f.shelf old) h.answer h.given) h.spent;
    stops = d.stops;
    limit = d.limit;
    keeps = d.keeps;
    progress = d.progress;
    holds = d.holds;
  }

  -- the same answer
  pub did_as : {A : Type 0} (x y : Answer A) (result : Result A Stop) (old new : Held) (f g : Outside) (a b : T) → y ≡ x → Did x result old new f g a b → Did y result old new f g a b
  did_as x y result old new f g a b e d = subst (λ z. Did z result old new f g a b) (sym e) d

  -- a call, and what follows it
  pub did_then : {A B : Type 0} (x : Answer A) (k : A → Reading B) (v : A) (result : Result B Stop) (old mid new : Held) (f g h : Outside) (a b c : T) → Did x (Ok v) old mid f g a b
      → Did (k v (state_of g.shelf mid)) result mid new g h b c → Did (chain x k) result old new f h a c
  did_then x k v result old mid new f g h a b c d e =
      did_by (chain x k) result old new f h a c
      (λ told. meets_then hear part x k v (state_of g.shelf mid) result (state_of h.shelf new) a b c (d.meets told) (e.meets (told_on f.shelf g.shelf old mid d.holds told)))
      (spends_then x k v (state_of g.shelf mid) result f.shelf g.shelf h.shelf old mid new (λ told. let m = d.meets told in (m.gains, m.is)) (told_on f.shelf g.shelf old mid d.holds) d.spends e.spends)
      (runs_then v result old mid new f g h (did_runs x (Ok v) old mid f g a b d) (did_runs (k v (state_of g.shelf mid)) result mid new g h b c e))

  -- a call that stops
  pub did_stop : {A B : Type 0} (x : Answer A) (k : A → Reading B) (e : Stop) (old new : Held) (f g : Outside) (a b : T) → Did x (Err e) old new f g a b → Did (chain x k) (Err e) old new f g a b
  did_stop x k e old new f g a b d =
      did_by (chain x k) (Err e) old new f g a b (λ told. meets_stop hear part x k e (state_of g.shelf new) a b (d.meets told)) (spends_stop x k e f.shelf g.shelf old new d.spends) (runs_stop e old new f g (did_runs x (Err e) old new f g a b d))

  -- a call that asks nothing
  pub did_silent : {A : Type 0} (x : Answer A) (result : Result A Stop) (old new : Held) (f : Outside) (a : T) → Silent x result (state_of f.shelf new) → new.stop ≡ stop_after result → IsAtLimit result new → OnOk result (Kept old new)
      → Progress old new → SameFiles old new → Owns f.shelf old → Did x result old new f f a a
  did_silent x result old new f a h kept limit keeps progress files owns =
      did_by x result old new f f a a (λ told. meets_silent hear part x result (state_of f.shelf new) a h) (spends_same x result f.shelf old new files)
      (runs_local result old new f kept (silent_fails_not x result (state_of f.shelf new) h) limit keeps progress files owns)

  -- a call that tells nobody
  pub did_gets : {A : Type 0} (x : Reading A) (result : Result A Stop) (old new : Held) (before now : Shelf) (reads reads' tells loan : ℕ) (a : T) → Gets x result old new (files_at before reads) (files_at now reads')
      → Did (x (state_of before old)) result old new (outside before reads tells loan) (outside now reads' tells loan) a a
  did_gets x result old new before now reads reads' tells loan a d =
      did_by (x (state_of before old)) result old new (outside before reads tells loan) (outside now reads' tells loan) a a (λ told. meets_quiet hear part (x (state_of before old)) result (state_of now new) a (d.reads told)) d.spends
      (runs_untold result old new before now reads reads' tells loan (gets_runs x result old new (files_at before reads) (files_at now reads') d))

  -- a value that is had without a change
  pub did_now : {A : Type 0} (v : A) (h : Held) (f : Outside) (a : T) → Sound h → h.stop ≡ None → Owns f.shelf h → Did (Done v (state_of f.shelf h) nothing) (Ok v) h h f f a a
  did_now v h f a sound running owns =
      did_by (Done v (state_of f.shelf h) nothing) (Ok v) h h f f a a (λ told. meets_silent hear part (Done v (state_of f.shelf h) nothing) (Ok v) (state_of f.shelf h) a refl)
      (spends_same (Done v (state_of f.shelf h) nothing) (Ok v) f.shelf h h (files_same h h refl)) (runs_now v h f sound running owns)

  -- a fault
  pub did_fault : {A : Type 0} (x : Answer A) (code : ℕ) (about : List ℕ) (e : Stop) (old new : Held) (f : Outside) (a : T) → x ≡ Ended (Tex (fault_at code about (place_of old))) nothing → IsFaultAt code about (place_of old) e
      → new ≡ record old { stop = Some e } → Owns f.shelf old → Did x (Err e) old new f f a a
  did_fault x code about e old new f a is fault e' owns =
      did_by x (Err e) old new f f a a (λ told. meets_silent hear part x (Err e) (state_of f.shelf new) a (silent_fault x code about (place_of old) e (state_of f.shelf new) is fault))
      (spends_same x (Err e) f.shelf old new (files_stopped old new e e')) (runs_fault code about e old new f fault e' owns)

  -- want of memory, before anything was told
  pub did_out : {A : Type 0} (x : Answer A) (e : Stop) (old new : Held) (f : Outside) (a : T) → e ≡ stop.NoMemory → new ≡ record old { stop = Some stop.NoMemory } → Owns f.shelf old → Did x (Err e) old new f f a a
  did_out {A = A} x e old new f a is e' owns =
      did_by x (Err e) old new f f a a (λ told. subst (λ (s : Stop). Meets hear part x (Err s) (state_of f.shelf new) a a) (sym is) (part_untold hear part x a)) (spends_same x (Err e) f.shelf old new (files_stopped old new stop.NoMemory e')) (runs_out e old new f is e' owns)

  -- a call that asks nothing, by depth
  pub does_silent : {A : Type 0} (r : By A) → Lawful r → (result : Result A Stop) (old new : Held) (f : Outside) (a : T) → Silent (r total (state_of f.shelf old)) result (state_of f.shelf new) → new.stop ≡ stop_after result → IsAtLimit result new
      → OnOk result (Kept old new) → Progress old new → SameFiles old new → Owns f.shelf old → Does hear part (λ n. r (level n)) result old new f f a a
  does_silent r l result old new f a h kept limit keeps progress files owns = does_of r l result old new f f a a (did_silent (r total (state_of f.shelf old)) result old new f a h kept limit keeps progress files owns)

  -- a call that tells nobody, by depth
  pub does_gets : {A : Type 0} (r : By A) → Lawful r → (result : Result A Stop) (old new : Held) (before now : Shelf) (reads reads' tells loan : ℕ) (a : T) → Gets (r total) result old new (files_at before reads) (files_at now reads')
      → Does hear part (λ n. r (level n)) result old new (outside before reads tells loan) (outside now reads' tells loan) a a
  does_gets r l result old new before now reads reads' tells loan a d =
      does_of r l result old new (outside before reads tells loan) (outside now reads' tells loan) a a (did_gets (r total) result old new before now reads reads' tells loan a d)

  -- a fault, by depth
  pub does_fault : {A : Type 0} (r : By A) → Lawful r → (code : ℕ) (about : List ℕ) (e : Stop) (old new : Held) (f : Outside) (a : T) → r total (state_of f.shelf old) ≡ Ended (Tex (fault_at code about (place_of old))) nothing
      → IsFaultAt code about (place_of old) e → new ≡ record old { stop = Some e } → Owns f.shelf old → Does hear part (λ n. r (level n)) (Err e) old new f f a a
  does_fault r l code about e old new f a is fault e' owns = does_of r l (Err e) old new f f a a (did_fault (r total (state_of f.shelf old)) code about e old new f a is fault e' owns)

  -- want of memory, by depth
  pub does_out : {A : Type 0} (r : By A) → Lawful r → (e : Stop) (old new : Held) (f : Outside) (a : T) → e ≡ stop.NoMemory → new ≡ record old { stop = Some stop.NoMemory } → Owns f.shelf old
      → Does hear part (λ n. r (level n)) (Err e) old new f f a a
  does_out r l e old new f a is e' owns = does_of r l (Err e) old new f f a a (did_out (r total (state_of f.shelf old)) e old new f a is e' owns)

  -- a value that is had without a change, by depth
  pub does_now : {A : Type 0} (v : A) (h : Held) (f : Outside) (a : T) → Sound h → h.stop ≡ None → Owns f.shelf h → Does hear part (λ n. give v) (Ok v) h h f f a a
  does_now v h f a sound running owns = does_of (λ c. give v) (lawful_give v) (Ok v) h h f f a a (did_now v h f a sound running owns)

  -- a call and what follows it, by depth
  abbrev Next : {A B : Type 0} → By A → (A → By B) → By B
  Next r q c s = chain (r c s) (λ v. q v c)

  pub does_stop : {A B : Type 0} (r : By A) (q : A → By B) → Lawful r → ((v : A) → Lawful (q v)) → (e : Stop) (old new : Held) (f g : Outside) (a b : T) → Does hear part (λ n. r (level n)) (Err e) old new f g a b
      → Does hear part (λ n. Next r q (level n)) (Err e) old new f g a b
  does_stop r q l m e old new f g a b d =
      does_of (Next r q) (lawful_then r q l m) (Err e) old new f g a b (did_stop (r total (state_of f.shelf old)) (λ v. q v total) e old new f g a b (did_of r l (Err e) old new f g a b d))

  pub does_then : {A B : Type 0} (r : By A) (q : A → By B) → Lawful r → (m : (v : A) → Lawful (q v)) → (v : A) (result : Result B Stop) (old mid new : Held) (f g h : Outside) (a b c : T) → Does hear part (λ n. r (level n)) (Ok v) old mid f g a b
      → Does hear part (λ n. q v (level n)) result mid new g h b c → Does hear part (λ n. Next r q (level n)) result old new f h a c
  does_then r q l m v result old mid new f g h a b c d e =
      does_of (Next r q) (lawful_then r q l m) result old new f h a c
      (did_then (r total (state_of f.shelf old)) (λ v. q v total) v result old mid new f g h a b c (did_of r l (Ok v) old mid f g a b d) (did_of (q v) (m v) result mid new g h b c e))

  -- a call that takes no files, whose value stands for another one
  pub does_as : {A B : Type 0} (at : A → B) (r : By B) → Lawful r → (result : Result A Stop) (old new : Held) (f : Outside) (a : T) → Local (r total) (ok_at at result) old new → new.stop ≡ stop_after result → IsAtLimit result new
      → OnOk result (Kept old new) → Progress old new → SameFiles old new → Owns f.shelf old → Does hear part (λ n. r (level n)) (ok_at at result) old new f f a a
  does_as at r l (Ok v) old new f a h kept limit keeps progress files owns = does_silent r l (Ok (at v)) old new f a (h f.shelf) kept limit keeps progress files owns
  does_as {A = A} {B = B} at r l (Err e) old new f a h kept limit keeps progress files owns = does_silent r l (Err e) old new f a (h f.shelf) kept (limit_as A B e new limit) tt progress files owns

  -- a call by what is found in the state
  pub does_by : {A X : Type 0} (look : State → X) (r : X → By A) (x : X) (result : Result A Stop) (old new : Held) (f g : Outside) (a b : T) → x ≡ look (state_of f.shelf old) → Does hear part (λ n. r x (level n)) result old new f g a b
      → Does hear part (λ n s. r (look s) (level n) s) result old new f g a b
  does_by look r x result old new f g a b e d =
      let at = subst (λ y. Does hear part (λ n. r y (level n)) result old new f g a b) e d in
      record { follows = at.follows; spends = at.spends; stops = at.stops; limit = at.limit; keeps = at.keeps; progress = at.progress; holds = at.holds }
