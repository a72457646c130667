-- What \the gives, step by step.
use Rattle.std.proofs.Common.{◌≡◌, false, [], Option, None, Some, Result, Ok, Err, List, refl}
use Rattle.texml_token.specs.Token.{Token}
use Rattle.texml_token.specs.declared.fault_code.TheConstants.{FILE_ENDED}
use Rattle.texml_scope.specs.Texts.{Meaning}
use Rattle.texml_watch.specs.declared.record.Record.{Record}
use Rattle.texml_expand.specs.declared.stop.Stop.{Stop}
use Rattle.texml_expand.specs.declared.stop.Stop.TheVariants as stop
use Rattle.texml_expand.specs.State.{State, give}
use Rattle.texml_expand.specs.Take.{means}
use Rattle.texml_expand.specs.Variables.{Internal}
use Rattle.texml_expand.specs.Quantities.{Looked, expanded, next_looked, internal, internal_now, next_internal, shown, the}
use Rattle.texml_expand.specs.Expand.{level}
use Rattle.texml_expand.specs.Contract.{Outside, IsFaultAt}
use Rattle.texml_expand.specs.Held.{Held, place_of, world_in}
use Rattle.texml_expand.specs.Doing.{Does}
use Rattle.texml_expand.proofs.Lawful.{lawful_give}
use Rattle.texml_expand.proofs.Looking.{lawful_expanded, lawful_needed, lawful_internal_now, internal_behind, lawful_internal_behind, lawful_next_internal}
use Rattle.texml_expand.proofs.Doing.{does_by, does_now, does_fault, does_out, does_stop, does_then}

module _ {T : Type 0} (hear part : T → Record → T → Type 0) where
  pub internal_stops : (e : Stop) (old new : Held) (f g : Outside) (a b : T) → Does hear part (λ n. next_looked (level n) false) (Err e) old new f g a b → Does hear part (λ n. next_internal (level n)) (Err e) old new f g a b
  internal_stops e old new f g a b d = does_stop hear part expanded internal_behind lawful_expanded lawful_internal_behind e old new f g a b d

  internal_then : (o : Option Looked) (r : Result Internal Stop) (old mid new : Held) (f g h : Outside) (a b c : T) → Does hear part (λ n. next_looked (level n) false) (Ok o) old mid f g a b → Does hear part (λ n. internal_behind o (level n)) r mid new g h b c
      → Does hear part (λ n. next_internal (level n)) r old new f h a c
  internal_then o r old mid new f g h a b c d e = does_then hear part expanded internal_behind lawful_expanded lawful_internal_behind o r old mid new f g h a b c d e

  -- there is no token
  pub internal_ends : (e : Stop) (old mid new : Held) (f g : Outside) (a b : T) → Does hear part (λ n. next_looked (level n) false) (Ok None) old mid f g a b → IsFaultAt FILE_ENDED [] (place_of mid) e → new ≡ record mid { stop = Some e }
      → Does hear part (λ n. next_internal (level n)) (Err e) old new f g a b
  internal_ends e old mid new f g a b d fault stopped =
      internal_then None (Err e) old mid new f g g a b b d (does_fault hear part (internal_behind None) (lawful_internal_behind None) FILE_ENDED [] e mid new g b refl fault stopped d.holds.owns)

  -- memory is short behind a token
  pub internal_out : (x : Looked) (e : Stop) (old mid new : Held) (f g : Outside) (a b : T) → Does hear part (λ n. next_looked (level n) false) (Ok (Some x)) old mid f g a b → e ≡ stop.NoMemory → new ≡ record mid { stop = Some stop.NoMemory }
      → Does hear part (λ n. next_internal (level n)) (Err e) old new f g a b
  internal_out x e old mid new f g a b d lack is =
      internal_then (Some x) (Err e) old mid new f g g a b b d (does_out hear part (internal_behind (Some x)) (lawful_internal_behind (Some x)) e mid new g b lack is d.holds.owns)

  -- the quantity that a token begins
  pub internal_begins : (x : Looked) (m : Meaning) (r : Result Internal Stop) (old mid new : Held) (f g h : Outside) (a b c : T) → Does hear part (λ n. next_looked (level n) false) (Ok (Some x)) old mid f g a b → m ≡ means (world_in mid) x.counts
      → Does hear part (λ n. internal (level n) m) r mid new g h b c → Does hear part (λ n. next_internal (level n)) r old new f h a c
  internal_begins x m r old mid new f g h a b c d e k =
      internal_then (Some x) r old mid new f g h a b c d
      (does_then hear part (λ c. give x) (λ y c. internal_now c y.counts) (lawful_needed (Some x)) (λ y. lawful_internal_now y.counts) x r mid mid new g g h b b c (does_now hear part x mid g b d.keeps.sound d.stops.kept d.holds.owns)
      (does_by hear part (λ (s : State). means s.world x.counts) (λ m c. internal c m) m r mid new g h b c e k))

  -- what \the gives
  pub the_stops : (e : Stop) (old new : Held) (f g : Outside) (a b : T) → Does hear part (λ n. next_internal (level n)) (Err e) old new f g a b → Does hear part (λ n. the (level n)) (Err e) old new f g a b
  the_stops e old new f g a b d = does_stop hear part next_internal (λ q c. give (shown q)) lawful_next_internal (λ q. lawful_give (shown q)) e old new f g a b d

  pub the_does : (q : Internal) (r : Result (List Token) Stop) (old mid new : Held) (f g h : Outside) (a b c : T) → Does hear part (λ n. next_internal (level n)) (Ok q) old mid f g a b → Does hear part (λ n. give (shown q)) r mid new g h b c
      → Does hear part (λ n. the (level n)) r old new f h a c
  the_does q r old mid new f g h a b c d e = does_then hear part next_internal (λ q c. give (shown q)) lawful_next_internal (λ q. lawful_give (shown q)) q r old mid new f g h a b c d e
