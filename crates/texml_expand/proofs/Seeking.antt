-- An engine that skips text up to what is sought for a conditional.
use Rattle.std.proofs.Common.{◌≡◌, ◌+◌, ◌-◌, ℕ, true, false, nat_le, List, [], length, take, slice_set, None, Some, Result, Ok, Err, refl, sym, ap, ◌∙◌, subst, arith}
use Rattle.texml_base.specs.Outside.{Shelf}
use Rattle.texml_token.specs.declared.fault_code.TheConstants.{EXTRA_COND}
use Rattle.texml_token.proofs.Table.{extends_refl}
use Rattle.texml_cond.specs.declared.limits.Bound.{Bound}
use Rattle.texml_cond.specs.declared.limits.Word.{Word}
use Rattle.texml_cond.specs.declared.limits.Word.TheVariants as words
use Rattle.texml_expand.specs.declared.stop.Stop.{Stop}
use Rattle.texml_expand.specs.State.{State, Reading, nothing, Done, ◌>>=◌, change, fail}
use Rattle.texml_expand.specs.Branches.{Sought, Met, Ends, Chooses, Forbidden, Passes, meets}
use Rattle.texml_expand.specs.Conditionals.{bounded, closed, skipped, met_own, met_word, seek}
use Rattle.texml_expand.specs.Contract.{Outside, IsFaultAt}
use Rattle.texml_expand.specs.Held.{Held, place_of, state_of, Sound, Kept, Owns, SameFiles, Shrinks}
use Rattle.texml_expand.specs.Doing.{Gets, Runs}
use Rattle.texml_expand.specs.Fronts.{inner_passed}
use Rattle.texml_expand.proofs.Deciding.{after_nothing}
use Rattle.texml_expand.proofs.Spending.{spends_same}
use Rattle.texml_expand.proofs.Getting.{gets_by, gets_as, gets_then, gets_stop, gets_fault}
use Rattle.texml_expand.proofs.Running.{shrinks_none, shrinks_then, runs_local}
use Rattle.texml_expand.proofs.Seeks.{seek_is, word_own, word_inner, passed}

-- The list of open conditionals changes

abbrev pub with_limits : List Bound → Held → Held
with_limits limits h = record h { conditionals = limits }

-- only it changed
pub record Rebound (h new : Held) (f : Outside) : Type 0 where
  pub running : new.stop ≡ None
  pub sound : Sound new
  pub kept : Kept h new
  pub owns : Owns f.shelf new
  pub runs : Runs {A = Unit {0}} (Ok tt) h new f f
  pub lower : Shrinks 0 f.shelf h f.shelf new

pub sound_limits : (limits : List Bound) (h : Held) → Sound h → Sound (with_limits limits h)
sound_limits limits h s = record { numbered = s.numbered; sources = s.sources; ready = s.ready; kept = s.kept; scope = s.scope; budget = s.budget }

kept_limits : (limits : List Bound) (h : Held) → Sound h → Kept h (with_limits limits h)
kept_limits limits h s = record { grows = extends_refl h.names; sound = sound_limits limits h s }

pub rebound_to : (limits : List Bound) (h : Held) (f : Outside) → h.stop ≡ None → Sound h → Owns f.shelf h → Rebound h (with_limits limits h) f
rebound_to limits h f running sound owns = record {
  running = running;
  sound = sound_limits limits h sound;
  kept = kept_limits limits h sound;
  owns = record { held = owns.held; all = owns.all };
  runs =
      runs_local (Ok tt) h (with_limits limits h) f running tt tt (kept_limits limits h sound) (record { names = extends_refl h.names; begun = omega arith; within = λ b. b; limit = refl; writes = omega arith }) (record { ids = refl; readers = refl }) owns;
  lower = record { limit = refl; nesting = refl; begun = omega arith; room = λ _. omega arith; within = λ lt. absurd (omega (arith, lt)) };
}

pub rebound : (limits : List Bound) (h new : Held) (f : Outside) → new ≡ with_limits limits h → h.stop ≡ None → Sound h → Owns f.shelf h → Rebound h new f
rebound limits h new f e running sound owns = subst (λ n. Rebound h n f) (sym e) (rebound_to limits h f running sound owns)

pub rebound_gets : (to : State → State) (limits : List Bound) (h new : Held) (f : Outside) → ((shelf : Shelf) → state_of shelf (with_limits limits h) ≡ to (state_of shelf h)) → new ≡ with_limits limits h → h.stop ≡ None → Sound h → Owns f.shelf h
    → Gets (change to) (Ok tt) h new f f
rebound_gets to limits h new f same e running sound owns =
    let files = subst (SameFiles h) (sym e) (record { ids = refl; readers = refl }) in
    gets_by (change to) (Ok tt) h new f f (λ told. ([], ap (λ s. Done tt s nothing) (sym (same f.shelf)) ∙ ap (λ (n : Held). Done tt (state_of f.shelf n) nothing) (sym e)))
    (spends_same (change to (state_of f.shelf h)) (Ok tt) f.shelf h new files) (rebound limits h new f e running sound owns).runs

-- Skipping on

-- an engine that seeks: what it does from now on is what the whole does
pub record Seeking (at : ℕ) (first : Sought) (old : Held) (f : Outside) (sought : Sought) (now : Held) (g : Outside) : Type 0 where
  pub running : now.stop ≡ None
  pub sound : Sound now
  pub owns : Owns g.shelf now
  pub lower : Shrinks 0 f.shelf old g.shelf now
  pub on : (r : Result (Unit {0}) Stop) (new : Held) (h : Outside) → Gets (seek at sought) r now new g h → Gets (seek at first) r old new f h

pub seeking_none : (at : ℕ) (sought : Sought) (h : Held) (f : Outside) → h.stop ≡ None → Sound h → Owns f.shelf h → Seeking at sought h f sought h f
seeking_none at sought h f running sound owns = record { running = running; sound = sound; owns = owns; lower = shrinks_none f.shelf h; on = λ r new k d. d }

module _ (at : ℕ) (first sought : Sought) (old now mid : Held) (f g h : Outside) (i : Seeking at first old f sought now g) where
  abbrev seeks : Reading (Unit {0})
  seeks = skipped >>= met_word (seek at) at sought

  pub seeking_stops : (e : Stop) → Gets skipped (Err e) now mid g h → Gets (seek at first) (Err e) old mid f h
  seeking_stops e d = i.on (Err e) mid h (gets_as seeks (seek at sought) (Err e) now mid g h (seek_is at sought (state_of g.shelf now)) (gets_stop skipped (met_word (seek at) at sought) e now mid g h d))

  module _ (word : Word) (d : Gets skipped (Ok word) now mid g h) (low : Shrinks 1 g.shelf now h.shelf mid) where
    -- a word is reached, and what it does
    by_word : (y : Reading (Unit {0})) (r : Result (Unit {0}) Stop) (new : Held) (k : Outside) → met_word (seek at) at sought word (state_of h.shelf mid) ≡ y (state_of h.shelf mid) → Gets y r mid new h k → Gets (seek at first) r old new f k
    by_word y r new k e u =
        i.on r new k (gets_as seeks (seek at sought) r now new g k (seek_is at sought (state_of g.shelf now))
        (gets_then skipped (met_word (seek at) at sought) word r now mid new g h k d (gets_as y (met_word (seek at) at sought word) r mid new h k e u)))

    abbrev is_own : Type 0
    is_own = nat_le (length mid.conditionals) (at + 1) ≡ true

    own_is : (m : Met) → is_own → meets sought word ≡ m → met_word (seek at) at sought word (state_of h.shelf mid) ≡ met_own (seek at) at m (state_of h.shelf mid)
    own_is m own is = word_own at sought (state_of h.shelf mid) word own ∙ ap (λ x. met_own (seek at) at x (state_of h.shelf mid)) is

    lower_mid : Shrinks 0 f.shelf old h.shelf mid
    lower_mid = shrinks_then 0 1 0 f.shelf g.shelf h.shelf old now mid i.lower low (omega arith)

    -- a word of a conditional that began inside the test
    pub seeking_inner : (new : Held) → nat_le (length mid.conditionals) (at + 1) ≡ false → new ≡ with_limits (inner_passed word mid.conditionals) mid → Seeking at first old f sought new h
    seeking_inner new inner e =
        let b = rebound (inner_passed word mid.conditionals) mid new h e d.stops.kept d.keeps.sound d.holds.owns in
        record {
          running = b.running;
          sound = b.sound;
          owns = b.owns;
          lower = shrinks_then 0 0 0 f.shelf h.shelf h.shelf old mid new lower_mid b.lower (omega arith);
          on = λ r z k y. by_word (change (passed word) >>= (λ _. seek at sought)) r z k (word_inner at sought (state_of h.shelf mid) word inner ∙ sym (after_nothing (seek at sought (passed word (state_of h.shelf mid)))))
              (gets_then (change (passed word)) (λ _. seek at sought) tt r mid new z h h k
              (rebound_gets (passed word) (inner_passed word mid.conditionals) mid new h (λ shelf. sym (passed_state word shelf)) e d.stops.kept d.keeps.sound d.holds.owns) y);
        }
      where
        passed_state : (word : Word) (shelf : Shelf) → passed word (state_of shelf mid) ≡ state_of shelf (with_limits (inner_passed word mid.conditionals) mid)
        passed_state words.Fi shelf = refl
        passed_state words.Else shelf = refl
        passed_state words.Or shelf = refl

    -- its own word, behind which something else is sought
    pub seeking_passes : (c : Sought) → is_own → meets sought word ≡ Passes c → Seeking at first old f c mid h
    seeking_passes c own m = record {
      running = d.stops.kept;
      sound = d.keeps.sound;
      owns = d.holds.owns;
      lower = lower_mid;
      on = λ r z k y. by_word (seek at c) r z k (own_is (Passes c) own m) y;
    }

    pub seeking_lower : (limits : List Bound) (new : Held) → new ≡ with_limits limits mid → Shrinks 0 f.shelf old h.shelf new
    seeking_lower limits new e = shrinks_then 0 0 0 f.shelf h.shelf h.shelf old mid new lower_mid (rebound limits mid new h e d.stops.kept d.keeps.sound d.holds.owns).lower (omega arith)

    pub seeking_ends : (new : Held) → is_own → meets sought word ≡ Ends → new ≡ with_limits (take (length mid.conditionals - 1) mid.conditionals) mid → Gets (seek at first) (Ok tt) old new f h
    seeking_ends new own m e =
        by_word (change closed) (Ok tt) new h (own_is Ends own m)
        (rebound_gets closed (take (length mid.conditionals - 1) mid.conditionals) mid new h (λ shelf. refl) e d.stops.kept d.keeps.sound d.holds.owns)

    pub seeking_chooses : (limit : Bound) (new : Held) → is_own → meets sought word ≡ Chooses limit → new ≡ with_limits (slice_set mid.conditionals at limit) mid → Gets (seek at first) (Ok tt) old new f h
    seeking_chooses limit new own m e =
        by_word (change (bounded at limit)) (Ok tt) new h (own_is (Chooses limit) own m)
        (rebound_gets (bounded at limit) (slice_set mid.conditionals at limit) mid new h (λ shelf. refl) e d.stops.kept d.keeps.sound d.holds.owns)

    pub seeking_forbids : (e : Stop) (new : Held) → is_own → meets sought word ≡ Forbidden → IsFaultAt EXTRA_COND [] (place_of mid) e → new ≡ record mid { stop = Some e } → Gets (seek at first) (Err e) old new f h
    seeking_forbids e new own m fault kept =
        by_word (fail EXTRA_COND []) (Err e) new h (own_is Forbidden own m) (gets_fault (fail EXTRA_COND []) EXTRA_COND [] e mid new h refl fault kept d.holds.owns)
