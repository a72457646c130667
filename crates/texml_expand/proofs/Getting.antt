-- Calls that tell nobody, one after the other.
use Rattle.std.proofs.Common.{◌≡◌, ℕ, IsTrue, List, [], None, Some, Result, Ok, Err, refl, sym, subst}
use Rattle.std.specs.Result.{OnOk}
use Rattle.texml_token.specs.Numbers.{Table}
use Rattle.texml_input.specs.Held.{AreLittle}
use Rattle.texml_expand.specs.declared.stop.Stop.{Stop}
use Rattle.texml_expand.specs.declared.stop.Stop.TheVariants as stop
use Rattle.texml_expand.specs.State.{nothing, loads, Tex, Answer, Done, Ended, Reading, chain, added, ◌>>=◌, give, fault_at}
use Rattle.texml_expand.specs.Contract.{Silent, Local, Quiet, Reads, Outside, IsFaultAt, stop_after}
use Rattle.texml_expand.specs.Held.{Held, place_of, state_of, Sound, Kept, Progress, IsAtLimit, Owns, SameFiles, ok_at}
use Rattle.texml_expand.specs.Doing.{Gets, Runs}
use Rattle.texml_expand.specs.Spending.{Spent, Spends}
use Rattle.texml_expand.proofs.Meeting.{silent_fails_not}
use Rattle.texml_expand.proofs.Fronts.{kept_itself}
use Rattle.texml_expand.proofs.Running.{limit_as, told_on, runs_then, runs_stop, runs_local, runs_now, runs_fault, runs_out, gets_runs, files_same, files_stopped}
use Rattle.texml_expand.proofs.Spending.{spent_same, spent_err, spent_fails, spent_chain, spent_done, spends_same, spends_as, spends_stop, spends_then}
use Rattle.texml_expand.proofs.Sequence.{quiet_silent, quiet_then, quiet_stops}
use Rattle.texml_expand.proofs.Taking.{quiet_fault}

pub gets_by : {A : Type 0} (x : Reading A) (r : Result A Stop) (old new : Held) (f g : Outside) → Reads f.shelf (x (state_of f.shelf old)) r (state_of g.shelf new) → Spends (x (state_of f.shelf old)) r f.shelf g.shelf old new → Runs r old new f g → Gets x r old new f g
gets_by x r old new f g reads spends d = record { reads = reads; spends = spends; stops = d.stops; limit = d.limit; keeps = d.keeps; progress = d.progress; holds = d.holds }

-- the same reading
pub gets_as : {A : Type 0} (x y : Reading A) (r : Result A Stop) (old new : Held) (f g : Outside) → y (state_of f.shelf old) ≡ x (state_of f.shelf old) → Gets x r old new f g → Gets y r old new f g
gets_as x y r old new f g e d =
    gets_by y r old new f g (λ told. subst (λ a. Quiet a r (state_of g.shelf new)) (sym e) (d.reads told)) (spends_as (x (state_of f.shelf old)) (y (state_of f.shelf old)) r f.shelf g.shelf old new e d.spends) (gets_runs x r old new f g d)

-- a call, and what follows it
pub gets_then : {A B : Type 0} (x : Reading A) (k : A → Reading B) (v : A) (r : Result B Stop) (old mid new : Held) (f g h : Outside) → Gets x (Ok v) old mid f g → Gets (k v) r mid new g h → Gets (x >>= k) r old new f h
gets_then x k v r old mid new f g h d e =
    gets_by (x >>= k) r old new f h
    (λ told. quiet_then (x (state_of f.shelf old)) k v (state_of g.shelf mid) r (state_of h.shelf new) (d.reads told) (e.reads (told_on f.shelf g.shelf old mid d.holds told)))
    (spends_then (x (state_of f.shelf old)) k v (state_of g.shelf mid) r f.shelf g.shelf h.shelf old mid new (λ told. let q = d.reads told in (loads q.0, q.1)) (told_on f.shelf g.shelf old mid d.holds) d.spends e.spends)
    (runs_then v r old mid new f g h (gets_runs x (Ok v) old mid f g d) (gets_runs (k v) r mid new g h e))

-- a call that stops
pub gets_stop : {A B : Type 0} (x : Reading A) (k : A → Reading B) (e : Stop) (old new : Held) (f g : Outside) → Gets x (Err e) old new f g → Gets (x >>= k) (Err e) old new f g
gets_stop x k e old new f g d =
    gets_by (x >>= k) (Err e) old new f g (λ told. quiet_stops (x (state_of f.shelf old)) k e (state_of g.shelf new) (state_of g.shelf new) (d.reads told)) (spends_stop (x (state_of f.shelf old)) k e f.shelf g.shelf old new d.spends) (runs_stop e old new f g (gets_runs x (Err e) old new f g d))

-- a call that takes no files
pub gets_local : {A : Type 0} (x : Reading A) (r : Result A Stop) (old new : Held) (f : Outside) → Local x r old new → new.stop ≡ stop_after r → IsAtLimit r new → OnOk r (Kept old new) → Progress old new → SameFiles old new → Owns f.shelf old
    → Gets x r old new f f
gets_local x r old new f h kept limit keeps progress files owns =
    gets_by x r old new f f (λ told. quiet_silent (x (state_of f.shelf old)) r (state_of f.shelf new) (h f.shelf)) (spends_same (x (state_of f.shelf old)) r f.shelf old new files)
    (runs_local r old new f kept (silent_fails_not (x (state_of f.shelf old)) r (state_of f.shelf new) (h f.shelf)) limit keeps progress files owns)

-- a value that is had without a change
pub gets_now : {A : Type 0} (v : A) (h : Held) (f : Outside) → Sound h → h.stop ≡ None → Owns f.shelf h → Gets (give v) (Ok v) h h f f
gets_now v h f sound running owns = gets_by (give v) (Ok v) h h f f (λ told. ([], refl)) (spends_same (give v (state_of f.shelf h)) (Ok v) f.shelf h h (files_same h h refl)) (runs_now v h f sound running owns)

-- a fault
pub gets_fault : {A : Type 0} (x : Reading A) (code : ℕ) (about : List ℕ) (e : Stop) (old new : Held) (f : Outside) → x (state_of f.shelf old) ≡ Ended (Tex (fault_at code about (place_of old))) nothing → IsFaultAt code about (place_of old) e
    → new ≡ record old { stop = Some e } → Owns f.shelf old → Gets x (Err e) old new f f
gets_fault x code about e old new f is fault e' owns =
    gets_by x (Err e) old new f f (λ told. quiet_fault (x (state_of f.shelf old)) code about (place_of old) e (state_of f.shelf new) ([], is) fault) (spends_same (x (state_of f.shelf old)) (Err e) f.shelf old new (files_stopped old new e e')) (runs_fault code about e old new f fault e' owns)

-- want of memory
pub gets_out : {A : Type 0} (x : Reading A) (e : Stop) (old new : Held) (f : Outside) → e ≡ stop.NoMemory → new ≡ record old { stop = Some stop.NoMemory } → Owns f.shelf old → Gets x (Err e) old new f f
gets_out x e old new f short is owns =
    gets_by x (Err e) old new f f (λ told. subst (λ (s : Stop). Quiet (x (state_of f.shelf old)) (Err s) (state_of f.shelf new)) (sym short) tt) (spends_same (x (state_of f.shelf old)) (Err e) f.shelf old new (files_stopped old new stop.NoMemory is)) (runs_out e old new f short is owns)

-- want of memory behind a call
pub gets_lost : {A : Type 0} (x : Reading A) (v : A) (e : Stop) (old mid new : Held) (f g : Outside) → Gets x (Ok v) old mid f g → e ≡ stop.NoMemory → new ≡ record mid { stop = Some stop.NoMemory } → Gets x (Err e) old new f g
gets_lost {A = A} x v e old mid new f g d short is =
    gets_by x (Err e) old new f g (λ told. subst (λ (s : Stop). Quiet (x (state_of f.shelf old)) (Err s) (state_of g.shelf new)) (sym short) tt)
    (λ told little. subst (λ (h : Held). Spent {A = A} (Err e) f.shelf g.shelf old.input.sources h.input.sources (added (x (state_of f.shelf old)))) (sym is)
    (spent_fails v e f.shelf g.shelf old.input.sources mid.input.sources (added (x (state_of f.shelf old))) (d.spends told little)))
    (runs_then v (Err e) old mid new f g g (gets_runs x (Ok v) old mid f g d) (runs_out e mid new g short is d.holds.owns))

-- a call that takes no files and changes nothing, whose value stands for another one
pub gets_new : {A B : Type 0} (at : Table → A → B) (x : Reading B) (r : Result A Stop) (old new : Held) (f : Outside) → Local x (ok_at (at old.names) r) old new → OnOk r (new ≡ old) → new.stop ≡ stop_after r → IsAtLimit r new → Sound old
    → Progress old new → SameFiles old new → Owns f.shelf old → Gets x (ok_at (at new.names) r) old new f f
gets_new at x (Ok v) old new f h same kept limit sound progress files owns =
    gets_local x (Ok (at new.names v)) old new f (λ shelf. subst (λ (n : Held). x (state_of shelf old) ≡ Done (at n.names v) (state_of shelf new) nothing) (sym same) (h shelf)) kept tt
    (subst (Kept old) (sym same) (kept_itself old sound)) progress files owns
gets_new {A = A} {B = B} at x (Err e) old new f h same kept limit sound progress files owns = gets_local x (Err e) old new f h kept (limit_as A B e new limit) tt progress files owns

-- a call that takes no files, whose value stands for another one
pub gets_at : {A B : Type 0} (at : A → B) (x : Reading B) (r : Result A Stop) (old new : Held) (f : Outside) → Local x (ok_at at r) old new → new.stop ≡ stop_after r → IsAtLimit r new → OnOk r (Kept old new) → Progress old new → SameFiles old new
    → Owns f.shelf old → Gets x (ok_at at r) old new f f
gets_at at x (Ok v) old new f h kept limit keeps progress files owns = gets_local x (Ok (at v)) old new f h kept tt keeps progress files owns
gets_at {A = A} {B = B} at x (Err e) old new f h kept limit keeps progress files owns = gets_local x (Err e) old new f h kept (limit_as A B e new limit) tt progress files owns

-- What calls read where files tell what they have

pub record Told {A : Type 0} (x : Answer A) (r : Result A Stop) (old new : Held) (f g : Outside) : Type 0 where
  pub quiet : Quiet x r (state_of g.shelf new)
  pub spent : AreLittle old.input.sources → Spent r f.shelf g.shelf old.input.sources new.input.sources (added x)

pub told_of : {A : Type 0} (x : Reading A) (r : Result A Stop) (old new : Held) (f g : Outside) → Gets x r old new f g → IsTrue f.shelf.tells → Told (x (state_of f.shelf old)) r old new f g
told_of x r old new f g d told = record { quiet = d.reads told; spent = d.spends told }

pub gets_told : {A : Type 0} (x : Reading A) (r : Result A Stop) (old new : Held) (f g : Outside) → (IsTrue f.shelf.tells → Told (x (state_of f.shelf old)) r old new f g) → Runs r old new f g → Gets x r old new f g
gets_told x r old new f g t d = gets_by x r old new f g (λ told. (t told).quiet) (λ told. (t told).spent) d

pub told_as : {A : Type 0} (x y : Answer A) (r : Result A Stop) (old new : Held) (f g : Outside) → y ≡ x → Told x r old new f g → Told y r old new f g
told_as x y r old new f g e t = subst (λ z. Told z r old new f g) (sym e) t

pub told_then : {A B : Type 0} (x : Answer A) (k : A → Reading B) (v : A) (r : Result B Stop) (old mid new : Held) (f g h : Outside) → Told x (Ok v) old mid f g → Told (k v (state_of g.shelf mid)) r mid new g h → Told (chain x k) r old new f h
told_then x k v r old mid new f g h t u = record {
  quiet = quiet_then x k v (state_of g.shelf mid) r (state_of h.shelf new) t.quiet u.quiet;
  spent = λ little.
      spent_done x k v (state_of g.shelf mid) (loads t.quiet.0) r f.shelf g.shelf h.shelf old.input.sources mid.input.sources new.input.sources t.quiet.1 (t.spent little) (λ small. u.spent small);
}

pub told_stop : {A B : Type 0} (x : Answer A) (k : A → Reading B) (e : Stop) (old new : Held) (f g : Outside) → Told x (Err e) old new f g → Told (chain x k) (Err e) old new f g
told_stop {A = A} {B = B} x k e old new f g t = record {
  quiet = quiet_stops x k e (state_of g.shelf new) (state_of g.shelf new) t.quiet;
  spent = λ little. spent_chain x k (Err e) f.shelf g.shelf old.input.sources new.input.sources (spent_err A B e f.shelf g.shelf old.input.sources new.input.sources (added x) (t.spent little));
}

-- no file is asked
pub told_local : {A : Type 0} (x : Answer A) (r : Result A Stop) (old new : Held) (f : Outside) → Silent x r (state_of f.shelf new) → SameFiles old new → Told x r old new f f
told_local x r old new f h files = record { quiet = quiet_silent x r (state_of f.shelf new) h; spent = λ little. spent_same r f.shelf old.input.sources new.input.sources (added x) files.readers little }

pub told_out : {A : Type 0} (x : Answer A) (e : Stop) (old new : Held) (f : Outside) → e ≡ stop.NoMemory → SameFiles old new → Told x (Err e) old new f f
told_out x e old new f short files = record {
  quiet = subst (λ (s : Stop). Quiet x (Err s) (state_of f.shelf new)) (sym short) tt;
  spent = λ little. spent_same (Err e) f.shelf old.input.sources new.input.sources (added x) files.readers little;
}
