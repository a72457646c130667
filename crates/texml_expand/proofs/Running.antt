-- What calls leave behind, one after the other.
use Rattle.std.proofs.Common.{◌≡◌, ◌+◌, ◌≤◌, ℕ, IsTrue, List, None, Some, Result, Ok, Err, refl, sym, ap, ◌∙◌, subst, arith, inl, inr, eq-or-lt_of_le}
use Rattle.std.specs.Result.{OnOk}
use Rattle.texml_base.specs.Outside.{Shelf}
use Rattle.texml_input.specs.Held.{ids_of, AreHeld}
use Rattle.texml_watch.specs.declared.record.Record.{Record}
use Rattle.texml_expand.specs.declared.stop.Stop.{Stop}
use Rattle.texml_expand.specs.declared.stop.Stop.TheVariants as stop
use Rattle.texml_expand.specs.State.{Reading}
use Rattle.texml_expand.specs.Expand.{ByDepth}
use Rattle.texml_expand.specs.Contract.{Outside, outside, files_at, IsFaultAt, stop_after}
use Rattle.texml_expand.specs.Held.{Held, place_of, Sound, Kept, Progress, IsAtLimit, Owns, Holding, readers_of, SameFiles, ok_at, Shrinks, Begun, Puts}
use Rattle.texml_expand.specs.Doing.{Does, Gets, Runs}
use Rattle.texml_expand.proofs.Meeting.{NothingFails, stops_untold, stops_then, stops_same, stops_as}
use Rattle.texml_expand.proofs.Fronts.{kept_then, kept_itself}
use Rattle.texml_expand.proofs.Progress.{progress_itself, progress_then, progress_stopped}

-- Files

-- what files have stays told
pub told_on : (before now : Shelf) (old new : Held) → Holding before now old new → IsTrue before.tells → IsTrue now.tells
told_on before now old new h told = subst IsTrue (sym h.tells) told

pub holding_itself : (shelf : Shelf) (h : Held) → Owns shelf h → Holding shelf shelf h h
holding_itself shelf h owns = record { owns = owns; tells = refl; contents = refl }

pub holding_then : (a b c : Shelf) (old mid new : Held) → Holding a b old mid → Holding b c mid new → Holding a c old new
holding_then a b c old mid new g h = record { owns = h.owns; tells = h.tells ∙ g.tells; contents = h.contents ∙ g.contents }

pub holding_same : (shelf : Shelf) (old new : Held) → Owns shelf old → SameFiles old new → Holding shelf shelf old new
holding_same shelf old new owns same = record {
  owns = record { held = subst (AreHeld shelf.ids) (sym same.ids) owns.held; all = owns.all ∙ sym same.ids };
  tells = refl;
  contents = refl;
}

pub files_stopped : (old new : Held) (e : Stop) → new ≡ record old { stop = Some e } → SameFiles old new
files_stopped old new e is = record { ids = ap (λ (h : Held). ids_of h.input.sources) is; readers = ap (λ (h : Held). readers_of h.input.sources) is }

pub files_same : (old new : Held) → new ≡ old → SameFiles old new
files_same old new is = record { ids = ap (λ (h : Held). ids_of h.input.sources) is; readers = ap (λ (h : Held). readers_of h.input.sources) is }

-- Room

pub shrinks_none : (shelf : Shelf) (h : Held) → Shrinks 0 shelf h shelf h
shrinks_none shelf h = record { limit = refl; nesting = refl; begun = omega arith; room = λ _. omega arith; within = λ lt. absurd (omega (arith, lt)) }

pub shrinks_then : (j k m : ℕ) (a b c : Shelf) (old mid new : Held) → Shrinks j a old b mid → Shrinks k b mid c new → m ≤ j + k → Shrinks m a old c new
shrinks_then j k m a b c old mid new g h le = record {
  limit = h.limit ∙ g.limit;
  nesting = h.nesting ∙ g.nesting;
  begun = omega (arith, g.begun, h.begun);
  room = λ e. let x = g.room (omega (arith, g.begun, h.begun, e)) in let y = h.room (omega (arith, g.begun, h.begun, e)) in omega arith;
  within = λ lt. elim (eq-or-lt_of_le h.begun) [
    | inl same ↦ (let w : mid.begun ≤ mid.limit = g.within (omega (arith, lt, same)) in omega (arith, w, same, h.limit))
    | inr later ↦ h.within later
  ];
}

pub shrinks_less : (k m : ℕ) (a b : Shelf) (old new : Held) → Shrinks k a old b new → m ≤ k → Shrinks m a old b new
shrinks_less k m a b old new s le = shrinks_then k 0 m a b b old new new s (shrinks_none b new) (omega arith)

-- some of the tokens that were read are put back
pub shrinks_puts : (j k m : ℕ) (a b : Shelf) (old mid new : Held) → Shrinks j a old b mid → Puts k mid new → m + k ≤ j → Shrinks m a old b new
shrinks_puts j k m a b old mid new g h le = record {
  limit = h.limit ∙ g.limit;
  nesting = h.nesting ∙ g.nesting;
  begun = omega (arith, g.begun, h.begun);
  room = λ e. let x = g.room (omega (arith, h.begun, e)) in let y = h.room b in omega arith;
  within = λ lt. let w : mid.begun ≤ mid.limit = g.within (omega (arith, lt, h.begun)) in omega (arith, w, h.begun, h.limit);
}

pub shrinks_same : (k : ℕ) (a b : Shelf) (old mid new : Held) → Shrinks k a old b mid → new ≡ mid → Shrinks k a old b new
shrinks_same k a b old mid new s e = subst (λ (h : Held). Shrinks k a old b h) (sym e) s

-- expansions began
pub begun_then : (k : ℕ) (a b : Shelf) (old mid new : Held) → Begun old mid → Shrinks k a mid b new → Begun old new
begun_then k a b old mid new g h = record {
  limit = h.limit ∙ g.limit;
  nesting = h.nesting ∙ g.nesting;
  begun = omega (arith, g.begun, h.begun);
  within = elim (eq-or-lt_of_le h.begun) [
    | inl same ↦ omega (arith, g.within, same, h.limit)
    | inr later ↦ h.within later
  ];
}

pub shrinks_begun : (k m : ℕ) (a b c : Shelf) (old mid new : Held) → Shrinks k a old b mid → Begun mid new → Shrinks m a old c new
shrinks_begun k m a b c old mid new g h = record {
  limit = h.limit ∙ g.limit;
  nesting = h.nesting ∙ g.nesting;
  begun = omega (arith, g.begun, h.begun);
  room = λ e. absurd (omega (arith, g.begun, h.begun, e));
  within = λ lt. h.within;
}

-- Calls

pub limit_as : (A B : Type 0) (e : Stop) (h : Held) → IsAtLimit {A = A} (Err e) h → IsAtLimit {A = B} (Err e) h
limit_as A B (stop.Tex f) h l = l
limit_as A B (stop.Limit n) h l = l
limit_as A B stop.ReadFailed h l = l
limit_as A B stop.TellFailed h l = l
limit_as A B stop.NoMemory h l = l

pub keeps_then : {B : Type 0} (r : Result B Stop) (h i j : Held) → Kept h i → OnOk r (Kept i j) → OnOk r (Kept h j)
keeps_then (Ok v) h i j g k = kept_then h i j g k
keeps_then (Err e) h i j g k = tt

pub runs_then : {A B : Type 0} (v : A) (r : Result B Stop) (old mid new : Held) (f g h : Outside) → Runs (Ok v) old mid f g → Runs r mid new g h → Runs r old new f h
runs_then v r old mid new f g h d e = record {
  stops = stops_then v r f g h mid.stop new.stop d.stops e.stops;
  limit = e.limit;
  keeps = keeps_then r old mid new d.keeps e.keeps;
  progress = progress_then old mid new d.progress e.progress;
  holds = holding_then f.shelf g.shelf h.shelf old mid new d.holds e.holds;
}

pub runs_stop : {A B : Type 0} (e : Stop) (old new : Held) (f g : Outside) → Runs {A = A} (Err e) old new f g → Runs {A = B} (Err e) old new f g
runs_stop {A = A} {B = B} e old new f g d = record { stops = stops_as A B e f g new.stop d.stops; limit = limit_as A B e new d.limit; keeps = tt; progress = d.progress; holds = d.holds }

-- the value doesn't matter
pub runs_as : {A B : Type 0} (v : A) (w : B) (old new : Held) (f g : Outside) → Runs (Ok v) old new f g → Runs (Ok w) old new f g
runs_as v w old new f g d = record {
  stops = record { kept = d.stops.kept; reads = d.stops.reads; tells = d.stops.tells; loan = d.stops.loan };
  limit = tt;
  keeps = d.keeps;
  progress = d.progress;
  holds = d.holds;
}

-- a call that takes no files
pub runs_local : {A : Type 0} (r : Result A Stop) (old new : Held) (f : Outside) → new.stop ≡ stop_after r → NothingFails r → IsAtLimit r new → OnOk r (Kept old new) → Progress old new → SameFiles old new → Owns f.shelf old
    → Runs r old new f f
runs_local r old new f kept fine limit keeps progress same owns = record {
  stops = stops_same r f new.stop kept fine;
  limit = limit;
  keeps = keeps;
  progress = progress;
  holds = holding_same f.shelf old new owns same;
}

pub runs_now : {A : Type 0} (v : A) (h : Held) (f : Outside) → Sound h → h.stop ≡ None → Owns f.shelf h → Runs (Ok v) h h f f
runs_now v h f sound running owns = runs_local (Ok v) h h f running tt tt (kept_itself h sound) (progress_itself h) (files_same h h refl) owns

fault_limit : (A : Type 0) (code : ℕ) (about : List ℕ) (old new : Held) (e : Stop) → IsFaultAt code about (place_of old) e → IsAtLimit {A = A} (Err e) new
fault_limit A code about old new (stop.Tex x) h = tt
fault_limit A code about old new (stop.Limit n) h = absurd h
fault_limit A code about old new stop.ReadFailed h = absurd h
fault_limit A code about old new stop.TellFailed h = absurd h
fault_limit A code about old new stop.NoMemory h = tt

fault_fine : (A : Type 0) (code : ℕ) (about : List ℕ) (old : Held) (e : Stop) → IsFaultAt code about (place_of old) e → NothingFails {A = A} (Err e)
fault_fine A code about old (stop.Tex x) h = tt
fault_fine A code about old (stop.Limit n) h = absurd h
fault_fine A code about old stop.ReadFailed h = absurd h
fault_fine A code about old stop.TellFailed h = absurd h
fault_fine A code about old stop.NoMemory h = tt

pub runs_fault : {A : Type 0} (code : ℕ) (about : List ℕ) (e : Stop) (old new : Held) (f : Outside) → IsFaultAt code about (place_of old) e → new ≡ record old { stop = Some e } → Owns f.shelf old → Runs {A = A} (Err e) old new f f
runs_fault {A = A} code about e old new f fault is owns =
    runs_local (Err e) old new f (ap (λ (h : Held). h.stop) is) (fault_fine A code about old e fault) (fault_limit A code about old new e fault) tt (progress_stopped old new e is) (files_stopped old new e is) owns

pub runs_out : {A : Type 0} (e : Stop) (old new : Held) (f : Outside) → e ≡ stop.NoMemory → new ≡ record old { stop = Some stop.NoMemory } → Owns f.shelf old → Runs {A = A} (Err e) old new f f
runs_out {A = A} e old new f short is owns =
    subst (λ (s : Stop). Runs {A = A} (Err s) old new f f) (sym short)
    (runs_local (Err stop.NoMemory) old new f (ap (λ (h : Held). h.stop) is) tt tt tt (progress_stopped old new stop.NoMemory is) (files_stopped old new stop.NoMemory is) owns)

-- a call that tells nobody, where somebody is told
pub runs_untold : {A : Type 0} (r : Result A Stop) (old new : Held) (before now : Shelf) (reads reads' tells loan : ℕ) → Runs r old new (files_at before reads) (files_at now reads')
    → Runs r old new (outside before reads tells loan) (outside now reads' tells loan)
runs_untold r old new before now reads reads' tells loan d = record {
  stops = stops_untold r before now reads reads' tells loan new.stop d.stops;
  limit = d.limit;
  keeps = d.keeps;
  progress = d.progress;
  holds = d.holds;
}

pub gets_runs : {A : Type 0} (x : Reading A) (r : Result A Stop) (old new : Held) (f g : Outside) → Gets x r old new f g → Runs r old new f g
gets_runs x r old new f g d = record { stops = d.stops; limit = d.limit; keeps = d.keeps; progress = d.progress; holds = d.holds }

pub does_runs : {T A : Type 0} (hear part : T → Record → T → Type 0) (x : ByDepth A) (r : Result A Stop) (old new : Held) (f g : Outside) (a b : T) → Does hear part x r old new f g a b → Runs r old new f g
does_runs hear part x r old new f g a b d = record { stops = d.stops; limit = d.limit; keeps = d.keeps; progress = d.progress; holds = d.holds }

-- the value stands for another one
pub runs_at : {A B : Type 0} (at : A → B) (r : Result A Stop) (old new : Held) (f g : Outside) → Runs r old new f g → Runs (ok_at at r) old new f g
runs_at at (Ok v) old new f g d = runs_as v (at v) old new f g d
runs_at at (Err e) old new f g d = runs_stop e old new f g d

-- some of the tokens that were read are put back, if all is well
pub ok_puts : {A : Type 0} (r : Result A Stop) (j k m : ℕ) (a b : Shelf) (old mid new : Held) → Shrinks j a old b mid → OnOk r (Puts k mid new) → m + k ≤ j → OnOk r (Shrinks m a old b new)
ok_puts (Ok v) j k m a b old mid new g h le = shrinks_puts j k m a b old mid new g h le
ok_puts (Err e) j k m a b old mid new g h le = tt

pub ok_same : {A : Type 0} (r : Result A Stop) (k : ℕ) (a b : Shelf) (old now new : Held) → Shrinks k a old b now → OnOk r (new ≡ now) → OnOk r (Shrinks k a old b new)
ok_same (Ok v) k a b old now new s e = shrinks_same k a b old now new s e
ok_same (Err x) k a b old now new s e = tt

-- the same files are its own
pub owns_same : (shelf : Shelf) (old new : Held) → Owns shelf old → SameFiles old new → Owns shelf new
owns_same shelf old new owns same = (holding_same shelf old new owns same).owns
