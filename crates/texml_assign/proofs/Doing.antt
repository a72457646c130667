-- Calls that go together.
use Rattle.std.proofs.Common.{◌≡◌, ◌+◌, ℕ, IsTrue, [], Option, None, Some, Result, Ok, Err, refl, sym, ap, ◌∙◌, subst, arith}
use Rattle.std.specs.Result.{OnOk, IfOk}
use Rattle.texml_base.specs.Outside.{Shelf}
use Rattle.texml_token.proofs.Table.{extends_refl}
use Rattle.texml_watch.specs.declared.record.Record.{Record}
use Rattle.texml_expand.proofs.Progress.{progress_same, progress_then}
use Rattle.texml_expand.specs.declared.stop.Stop.{Stop}
use Rattle.texml_expand.specs.declared.stop.Stop.TheVariants as stop
use Rattle.texml_expand.specs.State.{State, nothing, Answer, Done, Ended, Tex, Reading, chain, IsDecided, fault_at}
use Rattle.texml_expand.specs.Hearing.{Follows, FollowsTold}
use Rattle.texml_input.specs.Held.{ids_of, AreLittle}
use Rattle.texml_expand.specs.Contract.{Outside, Stops, Silent, Local, Reads, IsFaultAt, stop_after}
use Rattle.texml_expand.specs.Held.{Held, state_of, place_of, ok_at, Sound, Kept, Progress, IsAtLimit, Owns, Holding, readers_of, SameFiles, Shrinks, Puts}
use Rattle.texml_expand.specs.Spending.{Spends, SpendsBy}
use Rattle.texml_expand.proofs.Spending.{spends_same}
use Rattle.texml_expand.proofs.Fronts.{kept_then, kept_itself}
use Rattle.texml_expand.proofs.Meeting.{stops_as, stops_then, stops_same, silent_fails_not}
use Rattle.texml_expand.proofs.Running.{told_on, holding_then, holding_same, files_stopped, files_same, shrinks_none, shrinks_then, shrinks_less, shrinks_puts, limit_as, keeps_then}
use Rattle.texml_expand.proofs.Taking.{silent_fault}
use Rattle.texml_assign.specs.Loop.{Next, On, Over, LoopOver, loops}
use Rattle.texml_expand.specs.Expand.{ByDepth}
use Rattle.texml_assign.specs.Doing.{Does}
use Rattle.texml_assign.proofs.Readings.{IsUnlimited, Lawful, Sure, sure, sure_reading, Plain, chained, follows_then, follows_stop, follows_silent, follows_quiet, follows_out, spends_behind, spent_broken, spent_decided, spent_settled}
use Rattle.texml_assign.proofs.Looping.{LawfulLoop, LoopOnward, onward_start, loop_stops, loop_ends, turn_stops, turn_over, turn_out, turn_onward, LoopPays, pays_start, loop_stops_pays, loop_ends_pays, turn_stops_pays, turn_over_pays, turn_out_pays, turn_onward_pays}

-- Files

pub files_ended : (h i : Held) (s : Option Stop) → i ≡ record h { stop = s } → SameFiles h i
files_ended h i s e = record { ids = ap (λ (n : Held). ids_of n.input.sources) e; readers = ap (λ (n : Held). readers_of n.input.sources) e }

pub files_then : {h i j : Held} → SameFiles h i → SameFiles i j → SameFiles h j
files_then p q = record { ids = q.ids ∙ p.ids; readers = q.readers ∙ p.readers }

-- Room

pub no_more : {k : ℕ} {a b : Shelf} {h i : Held} → Shrinks k a h b i → Shrinks 0 a h b i
no_more {k} {a} {b} {h} {i} p = shrinks_less k 0 a b h i p (omega arith)

pub shrinks_on : {a b c : Shelf} {h i n : Held} → Shrinks 0 a h b i → Shrinks 0 b i c n → Shrinks 0 a h c n
shrinks_on {a} {b} {c} {h} {i} {n} p q = shrinks_then 0 0 0 a b c h i n p q (omega arith)

pub puts_stopped : (h i : Held) (s : Option Stop) → i ≡ record h { stop = s } → Puts 0 h i
puts_stopped h i s e = subst (Puts 0 h) (sym e) (record { limit = refl; nesting = refl; begun = refl; room = λ shelf. omega arith })

pub puts_then : {j k : ℕ} {h i n : Held} → Puts j h i → Puts k i n → Puts (j + k) h n
puts_then {j} {k} {h} {i} {n} p q = record { limit = q.limit ∙ p.limit; nesting = q.nesting ∙ p.nesting; begun = q.begun ∙ p.begun; room = λ shelf. let x = p.room shelf in let y = q.room shelf in omega arith }

shrinks_ok : {A : Type 0} (r : Result A Stop) (s : Shelf) (h i : Held) → OnOk r (Puts 0 h i) → OnOk r (Shrinks 0 s h s i)
shrinks_ok (Ok v) s h i p = shrinks_puts 0 0 0 s s h h i (shrinks_none s h) p (omega arith)
shrinks_ok (Err e) s h i p = tt

pub takes_behind : {A : Type 0} (r : Result A Stop) (k : A → ℕ) (a b c : Shelf) (h i j : Held) → Shrinks 0 a h b i → IfOk r (λ v. Shrinks (k v) b i c j) → IfOk r (λ v. Shrinks (k v) a h c j)
takes_behind (Ok v) k a b c h i j p q = shrinks_then 0 (k v) (k v) a b c h i j p q (omega arith)
takes_behind (Err e) k a b c h i j p q = tt

pub takes_less : {A : Type 0} (r : Result A Stop) (k : A → ℕ) (a b : Shelf) (h i : Held) → IfOk r (λ v. Shrinks (k v + 1) a h b i) → IfOk r (λ v. Shrinks (k v) a h b i)
takes_less (Ok v) k a b h i q = shrinks_less (k v + 1) (k v) a b h i q (omega arith)
takes_less (Err e) k a b h i q = tt

pub takes_any : {A : Type 0} (r : Result A Stop) (k : A → ℕ) (a b : Shelf) (h i : Held) → IfOk r (λ v. Shrinks (k v) a h b i) → OnOk r (Shrinks 0 a h b i)
takes_any (Ok v) k a b h i q = no_more q
takes_any (Err e) k a b h i q = tt

pub shrinks_behind : {B : Type 0} (r : Result B Stop) {a b : Shelf} {h i : Held} (c : Shelf) (j : Held) → Shrinks 0 a h b i → OnOk r (Shrinks 0 b i c j) → OnOk r (Shrinks 0 a h c j)
shrinks_behind (Ok v) c j p q = shrinks_on p q
shrinks_behind (Err e) c j p q = tt

puts_behind : {B : Type 0} (r : Result B Stop) (k : ℕ) (a b : Shelf) (h i j : Held) → Shrinks k a h b i → OnOk r (Puts k i j) → OnOk r (Shrinks 0 a h b j)
puts_behind (Ok v) k a b h i j p q = shrinks_puts k k 0 a b h i j p q (omega arith)
puts_behind (Err e) k a b h i j p q = tt

-- an engine goes on
pub advances_stopped : (h i : Held) (s : Option Stop) → i ≡ record h { stop = s } → Progress h i
advances_stopped h i s e = subst (Progress h) (sym e) (record { names = extends_refl h.names; begun = omega arith; within = λ b. b; limit = refl; writes = omega arith })

-- nothing outside was asked
limit_none : {A : Type 0} (r : Result A Stop) (new : State) (a : Answer A) (h : Held) → IsUnlimited a → Silent a r new → IsAtLimit r h
limit_none (Ok v) new a h u q = tt
limit_none (Err (stop.Tex f)) new a h u q = tt
limit_none (Err (stop.Limit n)) new a h u q = absurd (subst IsUnlimited q u)
limit_none (Err stop.ReadFailed) new a h u q = tt
limit_none (Err stop.TellFailed) new a h u q = tt
limit_none (Err stop.NoMemory) new a h u q = tt

pub keeps_same : {B : Type 0} (r : Result B Stop) (h i : Held) → Sound h → OnOk r (i ≡ h) → OnOk r (Kept h i)
keeps_same (Ok v) h i s e = subst (Kept h) (sym e) (kept_itself h s)
keeps_same (Err e) h i s k = tt

-- of another answer
pub kept_of : {A B : Type 0} (f : A → B) (r : Result A Stop) (k : Option Stop) → k ≡ stop_after r → k ≡ stop_after (ok_at f r)
kept_of f (Ok v) k e = e
kept_of f (Err s) k e = e

pub keeps_of : {A B : Type 0} (f : A → B) (r : Result A Stop) (P : Type 0) → OnOk r P → OnOk (ok_at f r) P
keeps_of f (Ok v) P p = p
keeps_of f (Err s) P p = tt

module _ {T : Type 0} (hear part : T → Record → T → Type 0) where
  -- a call, and what follows it
  pub does_then_sure : {A B : Type 0} (r : ByDepth A) (f : A → ByDepth B) → Lawful r → ((v : A) → Sure (f v)) → (v : A) (result : Result B Stop) (old mid new : Held) (x y z : Outside) (a b c : T)
      → Does hear part r (Ok v) old mid x y a b → Does hear part (f v) result mid new y z b c → Does hear part (chained r f) result old new x z a c
  does_then_sure r f l k v result old mid new x y z a b c g h = record {
    follows = λ told. follows_then hear part r f l k v result (state_of x.shelf old) (state_of y.shelf mid) (state_of z.shelf new) a b c (g.follows told) (h.follows (told_on _ _ _ _ g.holds told));
    spends = spends_behind hear part r f l k v result old mid new x.shelf y.shelf z.shelf a b g.follows (told_on _ _ _ _ g.holds) g.spends h.spends;
    stops = stops_then v result x y z mid.stop new.stop g.stops h.stops;
    limit = h.limit;
    keeps = keeps_then result old mid new g.keeps h.keeps;
    advances = progress_then old mid new g.advances h.advances;
    holds = holding_then _ _ _ _ _ _ g.holds h.holds;
    shrinks = shrinks_behind result _ _ g.shrinks h.shrinks;
  }

  pub does_then : {A B : Type 0} (r : ByDepth A) (f : A → ByDepth B) → Lawful r → ((v : A) → Lawful (f v)) → (v : A) (result : Result B Stop) (old mid new : Held) (x y z : Outside) (a b c : T)
      → Does hear part r (Ok v) old mid x y a b → Does hear part (f v) result mid new y z b c → Does hear part (chained r f) result old new x z a c
  does_then r f l k v result old mid new x y z a b c g h = does_then_sure r f l (λ v. sure (f v) (k v)) v result old mid new x y z a b c g h

  -- a call that stops
  pub does_stop_sure : {A B : Type 0} (r : ByDepth A) (f : A → ByDepth B) → Lawful r → ((v : A) → Sure (f v)) → (e : Stop) (old new : Held) (x y : Outside) (a b : T) → Sound old
      → Does hear part r (Err e) old new x y a b → Does hear part (chained r f) (Err e) old new x y a b
  does_stop_sure {A = A} {B = B} r f l k e old new x y a b sound g = record {
    follows = λ told. follows_stop hear part r f l k e (state_of x.shelf old) (state_of y.shelf new) a b (g.follows told);
    spends = λ told little. spent_broken r f l k e (state_of x.shelf old) x.shelf y.shelf old.input.sources new.input.sources (g.spends told little);
    stops = stops_as A B e x y new.stop g.stops;
    limit = limit_as A B e new g.limit;
    keeps = tt;
    advances = g.advances;
    holds = g.holds;
    shrinks = tt;
  }

  pub does_stop : {A B : Type 0} (r : ByDepth A) (f : A → ByDepth B) → Lawful r → ((v : A) → Lawful (f v)) → (e : Stop) (old new : Held) (x y : Outside) (a b : T) → Sound old
      → Does hear part r (Err e) old new x y a b → Does hear part (chained r f) (Err e) old new x y a b
  does_stop r f l k e old new x y a b sound g = does_stop_sure r f l (λ v. sure (f v) (k v)) e old new x y a b sound g

  -- a call that asks nothing outside
  pub does_local_sure : {A : Type 0} (r : Reading A) → ((s : State) → IsDecided (r s)) → ((s : State) → IsUnlimited (r s)) → (result : Result A Stop) (old new : Held) (x : Outside) (a : T) → Owns x.shelf old
      → Local r result old new → new.stop ≡ stop_after result → OnOk result (Kept old new) → Progress old new → SameFiles old new → OnOk result (Puts 0 old new) → Does hear part (λ n. r) result old new x x a a
  does_local_sure r decided unlimited result old new x a owns h kept keeps advances files puts =
      let s = h x.shelf in
      record {
        follows = λ told. follows_silent hear part r decided result (state_of x.shelf old) (state_of x.shelf new) a s;
        spends = λ told little. spent_decided r decided result (state_of x.shelf old) x.shelf x.shelf old.input.sources new.input.sources (spends_same (r (state_of x.shelf old)) result x.shelf old new files told little);
        stops = stops_same result x new.stop kept (silent_fails_not (r (state_of x.shelf old)) result (state_of x.shelf new) s);
        limit = limit_none result (state_of x.shelf new) (r (state_of x.shelf old)) new (unlimited (state_of x.shelf old)) s;
        keeps = keeps;
        advances = advances;
        holds = holding_same x.shelf old new owns files;
        shrinks = shrinks_ok result x.shelf old new puts;
      }

  pub does_local : {A : Type 0} (r : Reading A) → Plain r → (result : Result A Stop) (old new : Held) (x : Outside) (a : T) → Owns x.shelf old
      → Local r result old new → new.stop ≡ stop_after result → OnOk result (Kept old new) → Progress old new → SameFiles old new → OnOk result (Puts 0 old new) → Does hear part (λ n. r) result old new x x a a
  does_local r p result old new x a owns h kept keeps advances files puts = does_local_sure r p.decided p.unlimited result old new x a owns h kept keeps advances files puts

  -- one that changes nothing, or stops
  pub does_judge : {A : Type 0} (r : Reading A) → Plain r → (result : Result A Stop) (old new : Held) (x : Outside) (a : T) → Owns x.shelf old
      → Local r result old new → new.stop ≡ stop_after result → OnOk result (Kept old new) → new ≡ record old { stop = new.stop } → Does hear part (λ n. r) result old new x x a a
  does_judge r p result old new x a owns h kept keeps is =
      does_local r p result old new x a owns h kept keeps (advances_stopped old new new.stop is) (files_ended old new new.stop is) (judged result old new is)
    where
      judged : {A : Type 0} (r : Result A Stop) (h i : Held) → i ≡ record h { stop = i.stop } → OnOk r (Puts 0 h i)
      judged (Ok v) h i e = puts_stopped h i i.stop e
      judged (Err s) h i e = tt

  -- what is put back of what was taken before
  pub does_put : {A B : Type 0} (k : ℕ) (r : ByDepth A) (f : A → Reading B) → Lawful r → ((v : A) (s : State) → IsDecided (f v s)) → ((v : A) (s : State) → IsUnlimited (f v s)) → (v : A) (result : Result B Stop) (old mid new : Held) (x y : Outside) (a b : T)
      → Does hear part r (Ok v) old mid x y a b → Shrinks k x.shelf old y.shelf mid → Local (f v) result mid new → new.stop ≡ stop_after result → OnOk result (Kept mid new) → Progress mid new → SameFiles mid new → OnOk result (Puts k mid new)
      → Does hear part (chained r (λ v n. f v)) result old new x y a b
  does_put k r f l decided unlimited v result old mid new x y a b g takes h kept keeps advances files puts =
      let s = h y.shelf in
      record {
        follows = λ told. follows_then hear part r (λ v n. f v) l (λ v. sure_reading (f v) (decided v)) v result (state_of x.shelf old) (state_of y.shelf mid) (state_of y.shelf new) a b b (g.follows told) (follows_silent hear part (f v) (decided v) result (state_of y.shelf mid) (state_of y.shelf new) b s);
        spends = spends_behind hear part r (λ v n. f v) l (λ v. sure_reading (f v) (decided v)) v result old mid new x.shelf y.shelf y.shelf a b g.follows (told_on _ _ _ _ g.holds) g.spends
            (λ told little. spent_decided (f v) (decided v) result (state_of y.shelf mid) y.shelf y.shelf mid.input.sources new.input.sources (spends_same (f v (state_of y.shelf mid)) result y.shelf mid new files told little));
        stops = stops_then v result x y y mid.stop new.stop g.stops (stops_same result y new.stop kept (silent_fails_not (f v (state_of y.shelf mid)) result (state_of y.shelf new) s));
        limit = limit_none result (state_of y.shelf new) (f v (state_of y.shelf mid)) new (unlimited v (state_of y.shelf mid)) s;
        keeps = keeps_then result old mid new g.keeps keeps;
        advances = progress_then old mid new g.advances advances;
        holds = holding_then _ _ _ _ _ _ g.holds (holding_same y.shelf mid new g.holds.owns files);
        shrinks = puts_behind result k x.shelf y.shelf old mid new takes puts;
      }

  -- a value that is had without a change
  pub does_now : {A : Type 0} (r : Reading A) → Plain r → (v : A) (h : Held) (x : Outside) (a : T) → Sound h → Owns x.shelf h → h.stop ≡ None → ((shelf : Shelf) → r (state_of shelf h) ≡ Done v (state_of shelf h) nothing) → Does hear part (λ n. r) (Ok v) h h x x a a
  does_now r p v h x a sound owns running e = does_local r p (Ok v) h h x a owns e running (kept_itself h sound) (progress_same h h refl) (files_same h h refl) (puts_stopped h h h.stop refl)

  -- a fault
  pub does_fault : {A : Type 0} (r : Reading A) → Plain r → (code : ℕ) (e : Stop) (old new : Held) (x : Outside) (a : T) → Owns x.shelf old → ((shelf : Shelf) → r (state_of shelf old) ≡ Ended (Tex (fault_at code [] (place_of old))) nothing)
      → IsFaultAt code [] (place_of old) e → new ≡ record old { stop = Some e } → Does hear part (λ n. r) (Err e) old new x x a a
  does_fault r p code e old new x a owns is fault e' =
      does_local r p (Err e) old new x a owns (λ shelf. silent_fault (r (state_of shelf old)) code [] (place_of old) e (state_of shelf new) (is shelf) fault) (ap (λ (h : Held). h.stop) e') tt (advances_stopped old new (Some e) e') (files_stopped old new e e') tt

  -- a call of the engine's own, by its clauses
  pub does_call : {A B : Type 0} (reading : ByDepth B) (f : A → B) (r : Result A Stop) (old new : Held) (x y : Outside) (a b : T) → FollowsTold hear part x.shelf (λ n. reading n (state_of x.shelf old)) (ok_at f r) (state_of y.shelf new) a b
      → SpendsBy (λ n. reading n (state_of x.shelf old)) (ok_at f r) x.shelf y.shelf old new
      → Stops r x y new.stop → IsAtLimit r new → OnOk r (Kept old new) → Progress old new → Holding x.shelf y.shelf old new → OnOk r (Shrinks 0 x.shelf old y.shelf new) → Does hear part reading (ok_at f r) old new x y a b
  does_call {A = A} {B = B} reading f (Ok v) old new x y a b follows spends stops limit keeps progress holds shrinks = record {
    follows = follows;
    spends = spends;
    stops = record { kept = stops.kept; reads = stops.reads; tells = stops.tells; loan = stops.loan };
    limit = tt;
    keeps = keeps;
    advances = progress;
    holds = holds;
    shrinks = shrinks;
  }
  does_call {A = A} {B = B} reading f (Err e) old new x y a b follows spends stops limit keeps progress holds shrinks = record {
    follows = follows;
    spends = spends;
    stops = stops_as A B e x y new.stop stops;
    limit = limit_as A B e new limit;
    keeps = tt;
    advances = progress;
    holds = holds;
    shrinks = tt;
  }

  pub does_asks : {A : Type 0} (reading : Reading A) → Plain reading → (r : Result A Stop) (old new : Held) (x y : Outside) (a b : T) → b ≡ a → Reads x.shelf (reading (state_of x.shelf old)) r (state_of y.shelf new)
      → Spends (reading (state_of x.shelf old)) r x.shelf y.shelf old new → Stops r x y new.stop → IsAtLimit r new → OnOk r (Kept old new) → Progress old new → Holding x.shelf y.shelf old new → OnOk r (Shrinks 0 x.shelf old y.shelf new) → Does hear part (λ n. reading) r old new x y a b
  does_asks reading p r old new x y a b same reads spends stops limit keeps progress holds shrinks = record {
    follows = λ told. subst (Follows hear part (λ n. reading (state_of x.shelf old)) r (state_of y.shelf new) a) (sym same) (follows_quiet hear part reading p.decided r (state_of x.shelf old) (state_of y.shelf new) a (reads told));
    spends = λ told little. spent_decided reading p.decided r (state_of x.shelf old) x.shelf y.shelf old.input.sources new.input.sources (spends told little);
    stops = stops;
    limit = limit;
    keeps = keeps;
    advances = progress;
    holds = holds;
    shrinks = shrinks;
  }

  -- one that tells nobody
  pub does_reads : {A B : Type 0} (reading : Reading B) → Plain reading → (f : A → B) (r : Result A Stop) (old new : Held) (x y : Outside) (a b : T) → b ≡ a → Reads x.shelf (reading (state_of x.shelf old)) (ok_at f r) (state_of y.shelf new)
      → Spends (reading (state_of x.shelf old)) (ok_at f r) x.shelf y.shelf old new → Stops r x y new.stop → IsAtLimit r new → OnOk r (Kept old new) → Progress old new → Holding x.shelf y.shelf old new → OnOk r (Shrinks 0 x.shelf old y.shelf new) → Does hear part (λ n. reading) (ok_at f r) old new x y a b
  does_reads reading p f r old new x y a b same reads spends stops limit keeps progress holds shrinks =
      does_call (λ n. reading) f r old new x y a b
      (λ told. subst (Follows hear part (λ n. reading (state_of x.shelf old)) (ok_at f r) (state_of y.shelf new) a) (sym same) (follows_quiet hear part reading p.decided (ok_at f r) (state_of x.shelf old) (state_of y.shelf new) a (reads told)))
      (λ told little. spent_decided reading p.decided (ok_at f r) (state_of x.shelf old) x.shelf y.shelf old.input.sources new.input.sources (spends told little)) stops limit keeps progress holds shrinks

  -- want of memory
  pub does_out : {A : Type 0} (r : ByDepth A) → Lawful r → (e : Stop) (old new : Held) (x : Outside) (a : T) → Sound old → Owns x.shelf old → e ≡ stop.NoMemory → new ≡ record old { stop = Some stop.NoMemory } → Does hear part r (Err e) old new x x a a
  does_out {A = A} r l e old new x a sound owns is e' =
      subst (λ (s : Stop). Does hear part r (Err s) old new x x a a) (sym is) (record {
        follows = λ told. follows_out hear part r l (state_of x.shelf old) (state_of x.shelf new) a;
        spends = λ told little. spent_settled r l (Err stop.NoMemory) (state_of x.shelf old) x.shelf old.input.sources new.input.sources (files_stopped old new stop.NoMemory e').readers little;
        stops = record { kept = ap (λ (h : Held). h.stop) e'; reads = refl; tells = refl; loan = refl };
        limit = tt;
        keeps = tt;
        advances = advances_stopped old new (Some stop.NoMemory) e';
        holds = holding_same x.shelf old new owns (files_stopped old new stop.NoMemory e');
        shrinks = tt;
      })

  -- a reading that is the same from this state on
  pub does_as : {A : Type 0} (r q : ByDepth A) (result : Result A Stop) (old new : Held) (x y : Outside) (a b : T) → ((n : ℕ) (shelf : Shelf) → r n (state_of shelf old) ≡ q n (state_of shelf old)) → Does hear part q result old new x y a b → Does hear part r result old new x y a b
  does_as r q result old new x y a b e g = record {
    follows = λ told.
        let f = g.follows told in
        record { answer = f.answer; given = record { depth = f.given.depth; is = e f.given.depth x.shelf ∙ f.given.is; decided = f.given.decided }; meets = f.meets };
    spends = λ told little.
        let p = g.spends told little in
        record { answer = p.answer; given = record { depth = p.given.depth; is = e p.given.depth x.shelf ∙ p.given.is; decided = p.given.decided }; spent = p.spent };
    stops = g.stops;
    limit = g.limit;
    keeps = g.keeps;
    advances = g.advances;
    holds = g.holds;
    shrinks = g.shrinks;
  }

  -- a loop in the code
  module _ {X S A : Type 0} (loop : LoopOver X S A) (laws : LawfulLoop loop) where
    -- it runs, it is sound, nothing has failed, and what follows the loop from now on follows the whole loop
    pub record Goes (first : S) (old : Held) (x : Outside) (a : T) (seen : S) (now : Held) (y : Outside) (b : T) : Type 0 where
      pub running : now.stop ≡ None
      pub kept : Kept old now
      pub onward : IsTrue x.shelf.tells → LoopOnward loop laws hear part first (state_of x.shelf old) a seen (state_of y.shelf now) b
      pub pays : IsTrue x.shelf.tells → AreLittle old.input.sources → LoopPays loop laws hear part first (state_of x.shelf old) x.shelf old.input.sources seen (state_of y.shelf now) y.shelf now.input.sources
      pub calm : Stops {A = Unit {0}} (Ok tt) x y now.stop
      pub advances : Progress old now
      pub holds : Holding x.shelf y.shelf old now
      pub shrinks : Shrinks 0 x.shelf old y.shelf now

    pub goes_start : (seen : S) (h : Held) (x : Outside) (a : T) → h.stop ≡ None → Sound h → Owns x.shelf h → Goes seen h x a seen h x a
    goes_start seen h x a running sound owns = record {
      running = running;
      kept = kept_itself h sound;
      onward = λ told. onward_start loop laws hear part seen (state_of x.shelf h) a;
      pays = λ told little. pays_start loop laws hear part seen (state_of x.shelf h) x.shelf h.input.sources little;
      calm = record { kept = running; reads = refl; tells = refl; loan = refl };
      advances = progress_same h h refl;
      holds = holding_same x.shelf h h owns (files_same h h refl);
      shrinks = shrinks_none x.shelf h;
    }

    -- the end of a loop, by that of its last turn
    ends : (result : Result A Stop) (first : S) (old now new : Held) (x y z : Outside) (a b c : T) (seen : S) → Goes first old x a seen now y b → FollowsTold hear part x.shelf (λ n. loops loop first n (state_of x.shelf old)) result (state_of z.shelf new) a c → SpendsBy (λ n. loops loop first n (state_of x.shelf old)) result x.shelf z.shelf old new
        → Stops result y z new.stop → IsAtLimit result new → OnOk result (Kept now new) → Progress now new → Holding y.shelf z.shelf now new → OnOk result (Shrinks 0 y.shelf now z.shelf new) → Does hear part (loops loop first) result old new x z a c
    ends result first old now new x y z a b c seen g follows spends stops limit keeps advances holds shrinks = record {
      follows = follows;
      spends = spends;
      stops = stops_then tt result x y z now.stop new.stop g.calm stops;
      limit = limit;
      keeps = keeps_then result old now new g.kept keeps;
      advances = progress_then old now new g.advances advances;
      holds = holding_then _ _ _ _ _ _ g.holds holds;
      shrinks = shrinks_behind result _ _ g.shrinks shrinks;
    }

    -- no token can be had
    pub goes_stops : (e : Stop) (first seen : S) (old now new : Held) (x y z : Outside) (a b c : T) → Goes first old x a seen now y b → Does hear part loop.source (Err e) now new y z b c → Does hear part (loops loop first) (Err e) old new x z a c
    goes_stops e first seen old now new x y z a b c g d =
        ends (Err e) first old now new x y z a b c seen g
        (λ told. loop_stops loop laws hear part e first seen (state_of x.shelf old) (state_of y.shelf now) (state_of z.shelf new) a b c (g.onward told) (d.follows (told_on _ _ _ _ g.holds told)))
        (λ told little. loop_stops_pays loop laws hear part first seen (state_of x.shelf old) (state_of y.shelf now) x.shelf y.shelf old.input.sources now.input.sources (g.pays told little) e z.shelf new.input.sources (d.spends (told_on _ _ _ _ g.holds told)))
        (stops_as (Option X) A e y z new.stop d.stops) (limit_as (Option X) A e new d.limit) tt d.advances d.holds tt

    -- the end of what is to be read
    pub goes_ends : (result : Result A Stop) (first seen : S) (old now mid new : Held) (x y z w : Outside) (a b c d : T) → Goes first old x a seen now y b → Does hear part loop.source (Ok None) now mid y z b c
        → Does hear part (λ n. loop.end seen) result mid new z w c d → Does hear part (loops loop first) result old new x w a d
    goes_ends result first seen old now mid new x y z w a b c d g s e =
        ends result first old now new x y w a b d seen g
        (λ told. loop_ends loop laws hear part result first seen (state_of x.shelf old) (state_of y.shelf now) (state_of z.shelf mid) (state_of w.shelf new) a b c d (g.onward told) (s.follows (told_on _ _ _ _ g.holds told)) (e.follows (told_on _ _ _ _ s.holds (told_on _ _ _ _ g.holds told))))
        (λ told little. let on = told_on _ _ _ _ g.holds told in loop_ends_pays loop laws hear part first seen (state_of x.shelf old) (state_of y.shelf now) x.shelf y.shelf old.input.sources now.input.sources (g.pays told little) (state_of z.shelf mid) z.shelf mid.input.sources b c result w.shelf new.input.sources (s.follows on) (s.spends on) (e.spends (told_on _ _ _ _ s.holds on)))
        (stops_then None result y z w mid.stop new.stop s.stops e.stops) e.limit (keeps_then result now mid new s.keeps e.keeps) (progress_then now mid new s.advances e.advances) (holding_then _ _ _ _ _ _ s.holds e.holds) (shrinks_behind result _ _ s.shrinks e.shrinks)

    -- a turn that stops
    pub goes_turn_stops : (t : X) (e : Stop) (first seen : S) (old now mid new : Held) (x y z w : Outside) (a b c d : T) → Goes first old x a seen now y b → Does hear part loop.source (Ok (Some t)) now mid y z b c
        → Does hear part (loop.turn seen t) (Err e) mid new z w c d → Does hear part (loops loop first) (Err e) old new x w a d
    goes_turn_stops t e first seen old now mid new x y z w a b c d g s h =
        ends (Err e) first old now new x y w a b d seen g
        (λ told. turn_stops loop laws hear part t e first seen (state_of x.shelf old) (state_of y.shelf now) (state_of z.shelf mid) (state_of w.shelf new) a b c d (g.onward told) (s.follows (told_on _ _ _ _ g.holds told)) (h.follows (told_on _ _ _ _ s.holds (told_on _ _ _ _ g.holds told))))
        (λ told little. let on = told_on _ _ _ _ g.holds told in turn_stops_pays loop laws hear part first seen (state_of x.shelf old) (state_of y.shelf now) x.shelf y.shelf old.input.sources now.input.sources (g.pays told little) (state_of z.shelf mid) z.shelf mid.input.sources b c t (s.follows on) (s.spends on) e w.shelf new.input.sources (h.spends (told_on _ _ _ _ s.holds on)))
        (stops_then (Some t) (Err e) y z w mid.stop new.stop s.stops (stops_as (Next S A) A e z w new.stop h.stops)) (limit_as (Next S A) A e new h.limit) tt (progress_then now mid new s.advances h.advances) (holding_then _ _ _ _ _ _ s.holds h.holds) tt

    -- a turn behind which it is over
    pub goes_over : (t : X) (v : A) (first seen : S) (old now mid new : Held) (x y z w : Outside) (a b c d : T) → Goes first old x a seen now y b → Does hear part loop.source (Ok (Some t)) now mid y z b c
        → Does hear part (loop.turn seen t) (Ok (Over v)) mid new z w c d → Does hear part (loops loop first) (Ok v) old new x w a d
    goes_over t v first seen old now mid new x y z w a b c d g s h =
        let s' = stops_then (Some t) (Ok (Over v)) y z w mid.stop new.stop s.stops h.stops in
        ends (Ok v) first old now new x y w a b d seen g
        (λ told. turn_over loop laws hear part t v first seen (state_of x.shelf old) (state_of y.shelf now) (state_of z.shelf mid) (state_of w.shelf new) a b c d (g.onward told) (s.follows (told_on _ _ _ _ g.holds told)) (h.follows (told_on _ _ _ _ s.holds (told_on _ _ _ _ g.holds told))))
        (λ told little. let on = told_on _ _ _ _ g.holds told in turn_over_pays loop laws hear part first seen (state_of x.shelf old) (state_of y.shelf now) x.shelf y.shelf old.input.sources now.input.sources (g.pays told little) (state_of z.shelf mid) z.shelf mid.input.sources b c t (s.follows on) (s.spends on) (state_of w.shelf new) w.shelf new.input.sources d v (h.follows (told_on _ _ _ _ s.holds on)) (h.spends (told_on _ _ _ _ s.holds on)))
        (record { kept = s'.kept; reads = s'.reads; tells = s'.tells; loan = s'.loan }) tt (kept_then now mid new s.keeps h.keeps) (progress_then now mid new s.advances h.advances) (holding_then _ _ _ _ _ _ s.holds h.holds) (shrinks_on s.shrinks h.shrinks)

    -- want of memory behind a turn
    pub goes_out : (t : X) (next : Next S A) (e : Stop) (first seen : S) (old now mid far new : Held) (x y z w : Outside) (a b c d : T) → Goes first old x a seen now y b → Does hear part loop.source (Ok (Some t)) now mid y z b c
        → Does hear part (loop.turn seen t) (Ok next) mid far z w c d → e ≡ stop.NoMemory → new ≡ record far { stop = Some stop.NoMemory } → Does hear part (loops loop first) (Err e) old new x w a d
    goes_out t next e first seen old now mid far new x y z w a b c d g s h is e' =
        let s' = stops_then (Some t) (Ok next) y z w mid.stop far.stop s.stops h.stops in
        subst (λ (k : Stop). Does hear part (loops loop first) (Err k) old new x w a d) (sym is)
        (ends (Err stop.NoMemory) first old now new x y w a b d seen g
        (λ told. turn_out loop laws hear part t next first seen (state_of x.shelf old) (state_of y.shelf now) (state_of z.shelf mid) (state_of w.shelf far) (state_of w.shelf new) a b c d (g.onward told) (s.follows (told_on _ _ _ _ g.holds told)) (h.follows (told_on _ _ _ _ s.holds (told_on _ _ _ _ g.holds told))))
        (λ told little. let on = told_on _ _ _ _ g.holds told in turn_out_pays loop laws hear part first seen (state_of x.shelf old) (state_of y.shelf now) x.shelf y.shelf old.input.sources now.input.sources (g.pays told little) (state_of z.shelf mid) z.shelf mid.input.sources b c t (s.follows on) (s.spends on) (state_of w.shelf far) w.shelf far.input.sources d next new.input.sources (files_stopped far new stop.NoMemory e').readers (h.follows (told_on _ _ _ _ s.holds on)) (h.spends (told_on _ _ _ _ s.holds on)))
        (record { kept = ap (λ (h : Held). h.stop) e'; reads = s'.reads; tells = s'.tells; loan = s'.loan }) tt tt
        (progress_then now far new (progress_then now mid far s.advances h.advances) (advances_stopped far new (Some stop.NoMemory) e'))
        (holding_then _ _ _ _ _ _ (holding_then _ _ _ _ _ _ s.holds h.holds) (holding_same w.shelf far new h.holds.owns (files_stopped far new stop.NoMemory e'))) tt)

    -- a turn behind which it goes on
    pub goes_on : (t : X) (first seen more : S) (old now mid new : Held) (x y z w : Outside) (a b c d : T) → Goes first old x a seen now y b → Does hear part loop.source (Ok (Some t)) now mid y z b c
        → Does hear part (loop.turn seen t) (Ok (On more)) mid new z w c d → Goes first old x a more new w d
    goes_on t first seen more old now mid new x y z w a b c d g s h =
        let s' = stops_then (Some t) (Ok (On more)) y z w mid.stop new.stop s.stops h.stops in
        let t' = stops_then tt (Ok (On more)) x y w now.stop new.stop g.calm s' in
        record {
          running = s'.kept;
          kept = kept_then old now new g.kept (kept_then now mid new s.keeps h.keeps);
          onward = λ told. turn_onward loop laws hear part t first seen more (state_of x.shelf old) (state_of y.shelf now) (state_of z.shelf mid) (state_of w.shelf new) a b c d (g.onward told) (s.follows (told_on _ _ _ _ g.holds told)) (h.follows (told_on _ _ _ _ s.holds (told_on _ _ _ _ g.holds told)));
          pays = λ told little.
              let on = told_on _ _ _ _ g.holds told in
              turn_onward_pays loop laws hear part first seen (state_of x.shelf old) (state_of y.shelf now) x.shelf y.shelf old.input.sources now.input.sources (g.pays told little) (state_of z.shelf mid) z.shelf mid.input.sources b c t (s.follows on) (s.spends on) (state_of w.shelf new) w.shelf new.input.sources d more (h.follows (told_on _ _ _ _ s.holds on)) (h.spends (told_on _ _ _ _ s.holds on));
          calm = record { kept = t'.kept; reads = t'.reads; tells = t'.tells; loan = t'.loan };
          advances = progress_then old now new g.advances (progress_then now mid new s.advances h.advances);
          holds = holding_then _ _ _ _ _ _ g.holds (holding_then _ _ _ _ _ _ s.holds h.holds);
          shrinks = shrinks_on g.shrinks (shrinks_on s.shrinks h.shrinks);
        }

-- readings that go together and ask nothing outside
pub silent_then : {A B : Type 0} (a : Answer A) (f : A → Reading B) (v : A) (mid : State) (r : Result B Stop) (new : State) → a ≡ Done v mid nothing → Silent (f v mid) r new → Silent (chain a f) r new
silent_then a f v mid (Ok w) new e h = ap (λ x. chain x f) e ∙ ap (λ x. chain (Done v mid nothing) (λ _ _. x)) h
silent_then a f v mid (Err (stop.Tex n)) new e h = ap (λ x. chain x f) e ∙ ap (λ x. chain (Done v mid nothing) (λ _ _. x)) h
silent_then a f v mid (Err (stop.Limit n)) new e h = ap (λ x. chain x f) e ∙ ap (λ x. chain (Done v mid nothing) (λ _ _. x)) h
silent_then a f v mid (Err stop.ReadFailed) new e h = absurd h
silent_then a f v mid (Err stop.TellFailed) new e h = absurd h
silent_then a f v mid (Err stop.NoMemory) new e h = tt

pub silent_stop : {A B : Type 0} (a : Answer A) (f : A → Reading B) (e : Stop) (new : State) → Silent a (Err e) new → Silent (chain a f) (Err e) new
silent_stop a f (stop.Tex n) new h = ap (λ x. chain x f) h
silent_stop a f (stop.Limit n) new h = ap (λ x. chain x f) h
silent_stop a f stop.ReadFailed new h = absurd h
silent_stop a f stop.TellFailed new h = absurd h
silent_stop a f stop.NoMemory new h = tt

-- the same whatever the files are
pub local_then : {A B : Type 0} (r : Reading A) (f : A → Reading B) (v : A) (old mid new : Held) (result : Result B Stop) → ((shelf : Shelf) → r (state_of shelf old) ≡ Done v (state_of shelf mid) nothing) → Local (f v) result mid new → Local (λ s. chain (r s) f) result old new
local_then r f v old mid new result e h = λ shelf. silent_then (r (state_of shelf old)) f v (state_of shelf mid) result (state_of shelf new) (e shelf) (h shelf)

pub local_stop : {A B : Type 0} (r : Reading A) (f : A → Reading B) (e : Stop) (old new : Held) → Local r (Err e) old new → Local (λ s. chain (r s) f) (Err e) old new
local_stop r f e old new h = λ shelf. silent_stop (r (state_of shelf old)) f e (state_of shelf new) (h shelf)
