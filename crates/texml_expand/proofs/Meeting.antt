-- How the answers of readings that go together are met.
use Rattle.std.proofs.Common.{◌≡◌, ℕ, Bool, true, false, List, [], ◌∷◌, ◌++◌, Option, Some, None, Result, Ok, Err, refl, sym, ap, ◌∙◌, subst, arith, append_assoc, append-nil}
use Rattle.std.specs.Option.{option_to_list}
use Rattle.texml_base.specs.Outside.{Shelf}
use Rattle.texml_watch.specs.declared.record.Record.{Record}
use Rattle.texml_watch.specs.Telling.{AllHeard}
use Rattle.texml_watch.proofs.Hearing.{AllHeard-append}
use Rattle.texml_expand.specs.declared.stop.Stop.{Stop}
use Rattle.texml_expand.specs.declared.stop.Stop.TheVariants as stop
use Rattle.texml_expand.specs.State.{State, Gains, nothing, loads, ◌⊕◌, Answer, Done, Ended, Unfinished, Reading, after, chain, added, tell}
use Rattle.texml_expand.specs.Contract.{Silent, Quiet, DecidesOn, Stops, ReadsBecause, TellsBecause, Outside, outside, files_at, stop_after}
use Rattle.texml_expand.specs.Held.{ok_at}
use Rattle.texml_expand.proofs.Spending.{added_after}
use Rattle.texml_expand.specs.Hearing.{HearsIf, HearsPartIf, hears, hears_part, HeardLast, MeetsFirst, MeetsCut, MeetsPart, Meets, Follows}

-- what a first part adds, the whole adds first
added_chain : {A B : Type 0} (a : Answer A) (f : A → Reading B) → (more : List Record) × ((added (chain a f)).records ≡ (added a).records ++ more)
added_chain (Done v s gains) f = ((added (f v s)).records, ap (λ g. g.records) (added_after gains (f v s)))
added_chain (Ended e gains) f = ([], sym (append-nil gains.records))
added_chain (Unfinished gains) f = ([], sym (append-nil gains.records))

-- neither reading nor telling is blamed
abbrev pub NothingFails : {A : Type 0} → Result A Stop → Type 0
NothingFails (Ok v) = Unit {0}
NothingFails (Err (stop.Tex f)) = Unit {0}
NothingFails (Err (stop.Limit n)) = Unit {0}
NothingFails (Err stop.ReadFailed) = ⊥
NothingFails (Err stop.TellFailed) = ⊥
NothingFails (Err stop.NoMemory) = Unit {0}

module _ {T : Type 0} (hear part : T → Record → T → Type 0) where
  heard_last : (rows more : List Record) (last : Option Record) (a b c : T) → AllHeard hear a rows b → HeardLast hear part more last b c → HeardLast hear part (rows ++ more) last a c
  heard_last rows more None a b c h k = AllHeard-append hear a b c rows more h k
  heard_last rows more (Some last) a b c h k = (k.0, AllHeard-append hear a b k.0 rows more h k.1, k.2)

  part_after : {A : Type 0} (gains : Gains) (x : Answer A) (a b c : T) → AllHeard hear a gains.records b → MeetsPart hear part x b c → MeetsPart hear part (after gains x) a c
  part_after gains x a b c h k = record {
    rows = gains.records ++ k.rows;
    last = k.last;
    more = k.more;
    is = ap (λ g. g.records) (added_after gains x) ∙ (ap (λ y. gains.records ++ y) k.is ∙ simp append_assoc);
    heard = heard_last gains.records k.rows k.last a b c h k.heard;
  }

  first_after : {A : Type 0} (gains : Gains) (x : Answer A) (a b c : T) → AllHeard hear a gains.records b → MeetsFirst hear part x b c → MeetsFirst hear part (after gains x) a c
  first_after gains x a b c h k = record {
    rows = gains.records ++ k.rows;
    more = k.more;
    is = ap (λ g. g.records) (added_after gains x) ∙ (ap (λ y. gains.records ++ y) k.is ∙ simp append_assoc);
    heard = AllHeard-append hear a b c gains.records k.rows h k.heard;
  }

  cut_after : {A : Type 0} (gains : Gains) (x : Answer A) (a b c : T) → AllHeard hear a gains.records b → MeetsCut hear part x b c → MeetsCut hear part (after gains x) a c
  cut_after gains x a b c h k = record {
    rows = gains.records ++ k.rows;
    last = k.last;
    more = k.more;
    is = ap (λ g. g.records) (added_after gains x) ∙ (ap (λ y. gains.records ++ y) k.is ∙ simp append_assoc);
    heard = heard_last gains.records k.rows (Some k.last) a b c h k.heard;
  }

  -- the records of a first part were heard before
  pub meets_after : {A : Type 0} (gains : Gains) (x : Answer A) (r : Result A Stop) (s : State) (a b c : T) → AllHeard hear a gains.records b → Meets hear part x r s b c → Meets hear part (after gains x) r s a c
  meets_after gains x (Ok v) s a b c h k = record { gains = gains ⊕ k.gains; is = ap (after gains) k.is; heard = AllHeard-append hear a b c gains.records k.gains.records h k.heard }
  meets_after gains x (Err (stop.Tex n)) s a b c h k = record { gains = gains ⊕ k.gains; is = ap (after gains) k.is; heard = AllHeard-append hear a b c gains.records k.gains.records h k.heard }
  meets_after gains x (Err (stop.Limit n)) s a b c h k = record { gains = gains ⊕ k.gains; is = ap (after gains) k.is; heard = AllHeard-append hear a b c gains.records k.gains.records h k.heard }
  meets_after gains x (Err stop.ReadFailed) s a b c h k = first_after gains x a b c h k
  meets_after gains x (Err stop.TellFailed) s a b c h k = cut_after gains x a b c h k
  meets_after gains x (Err stop.NoMemory) s a b c h k = part_after gains x a b c h k

  -- a first part that is done, and what follows it
  pub meets_then : {A B : Type 0} (x : Answer A) (f : A → Reading B) (v : A) (mid : State) (r : Result B Stop) (s : State) (a b c : T)
      → Meets hear part x (Ok v) mid a b → Meets hear part (f v mid) r s b c → Meets hear part (chain x f) r s a c
  meets_then x f v mid r s a b c g h =
      subst (λ y. Meets hear part (chain y f) r s a c) (sym g.is) (meets_after g.gains (f v mid) r s a b c g.heard h)

  part_chain : {A B : Type 0} (x : Answer A) (f : A → Reading B) (a b : T) → MeetsPart hear part x a b → MeetsPart hear part (chain x f) a b
  part_chain x f a b k =
      let more = added_chain x f in
      record { rows = k.rows; last = k.last; more = k.more ++ more.0; is = more.1 ∙ (ap (λ y. y ++ more.0) k.is ∙ append_assoc (k.rows ++ option_to_list k.last) k.more more.0); heard = k.heard }

  first_chain : {A B : Type 0} (x : Answer A) (f : A → Reading B) (a b : T) → MeetsFirst hear part x a b → MeetsFirst hear part (chain x f) a b
  first_chain x f a b k =
      let more = added_chain x f in
      record { rows = k.rows; more = k.more ++ more.0; is = more.1 ∙ (ap (λ y. y ++ more.0) k.is ∙ append_assoc k.rows k.more more.0); heard = k.heard }

  cut_chain : {A B : Type 0} (x : Answer A) (f : A → Reading B) (a b : T) → MeetsCut hear part x a b → MeetsCut hear part (chain x f) a b
  cut_chain x f a b k =
      let more = added_chain x f in
      record { rows = k.rows; last = k.last; more = k.more ++ more.0; is = more.1 ∙ (ap (λ y. y ++ more.0) k.is ∙ append_assoc k.rows (k.last ∷ k.more) more.0); heard = k.heard }

  -- a first part that stops
  pub meets_stop : {A B : Type 0} (x : Answer A) (f : A → Reading B) (e : Stop) (s : State) (a b : T) → Meets hear part x (Err e) s a b → Meets hear part (chain x f) (Err e) s a b
  meets_stop x f (stop.Tex n) s a b k = record { gains = k.gains; is = ap (λ x. chain x f) k.is; heard = k.heard }
  meets_stop x f (stop.Limit n) s a b k = record { gains = k.gains; is = ap (λ x. chain x f) k.is; heard = k.heard }
  meets_stop x f stop.ReadFailed s a b k = first_chain x f a b k
  meets_stop x f stop.TellFailed s a b k = cut_chain x f a b k
  meets_stop x f stop.NoMemory s a b k = part_chain x f a b k

  -- nothing was told yet
  pub part_untold : {A : Type 0} (x : Answer A) (a : T) → MeetsPart hear part x a a
  part_untold x a = record { rows = []; last = None; more = (added x).records; is = refl; heard = refl }

  pub meets_silent : {A : Type 0} (x : Answer A) (r : Result A Stop) (s : State) (a : T) → Silent x r s → Meets hear part x r s a a
  meets_silent x (Ok v) s a h = record { gains = nothing; is = h; heard = refl }
  meets_silent x (Err (stop.Tex n)) s a h = record { gains = nothing; is = h; heard = refl }
  meets_silent x (Err (stop.Limit n)) s a h = record { gains = nothing; is = h; heard = refl }
  meets_silent x (Err stop.ReadFailed) s a h = absurd h
  meets_silent x (Err stop.TellFailed) s a h = absurd h
  meets_silent x (Err stop.NoMemory) s a h = part_untold x a

  first_untold : {A : Type 0} (x : Answer A) (a : T) → MeetsFirst hear part x a a
  first_untold x a = record { rows = []; more = (added x).records; is = refl; heard = refl }

  pub meets_quiet : {A : Type 0} (x : Answer A) (r : Result A Stop) (s : State) (a : T) → Quiet x r s → Meets hear part x r s a a
  meets_quiet x (Ok v) s a h = record { gains = loads h.0; is = h.1; heard = refl }
  meets_quiet x (Err (stop.Tex n)) s a h = record { gains = loads h.0; is = h.1; heard = refl }
  meets_quiet x (Err (stop.Limit n)) s a h = record { gains = loads h.0; is = h.1; heard = refl }
  meets_quiet x (Err stop.ReadFailed) s a h = first_untold x a
  meets_quiet x (Err stop.TellFailed) s a h = absurd h
  meets_quiet x (Err stop.NoMemory) s a h = part_untold x a

  -- one record is told
  pub meets_told : (row : Record) (s : State) (a b : T) → hear a row b → Meets hear part (tell row s) (Ok tt) s a b
  meets_told row s a b h = record { gains = record { records = row ∷ []; loaded = []; opened = [] }; is = refl; heard = (b, h, refl) }

  pub cut_told : (row : Record) (s : State) (a b : T) → part a row b → MeetsCut hear part (tell row s) a b
  cut_told row s a b h = record { rows = []; last = row; more = []; is = refl; heard = (a, refl, h) }

  pub part_told : (row : Record) (s : State) (a b : T) → part a row b → MeetsPart hear part (tell row s) a b
  part_told row s a b h = record { rows = []; last = Some row; more = []; is = refl; heard = (a, refl, h) }

  -- from what some depth gives to the one answer, and back
  pub follows_of : {A : Type 0} (reading : ℕ → Answer A) (x : Answer A) (r : Result A Stop) (s : State) (a b : T) → DecidesOn reading x → Meets hear part x r s a b → Follows hear part reading r s a b
  follows_of reading x r s a b g h = record { answer = x; given = g; meets = h }

-- who wants no record stays as they were, and who wants one hears it
pub hears_not : {T : Type 0} (wants : T → Bool) (heard : T → Record → T → Type 0) (row : Record) (a : T) → wants a ≡ false → hears wants heard a row a
hears_not wants heard row a e = subst (λ w. HearsIf w heard a row a) (sym e) refl

pub hears_one : {T : Type 0} (wants : T → Bool) (heard : T → Record → T → Type 0) (row : Record) (a b : T) → wants a ≡ true → heard a row b → hears wants heard a row b
hears_one wants heard row a b e h = subst (λ w. HearsIf w heard a row b) (sym e) h

pub hears_some : {T : Type 0} (wants : T → Bool) (part : T → Record → T → Type 0) (row : Record) (a b : T) → wants a ≡ true → part a row b → hears_part wants part a row b
hears_some wants part row a b e h = subst (λ w. HearsPartIf w part a row b) (sym e) h

-- a call that tells nobody may be said with any count and loan of theirs
pub stops_untold : {A : Type 0} (r : Result A Stop) (before now : Shelf) (reads reads' tells loan : ℕ) (kept : Option Stop) → Stops r (files_at before reads) (files_at now reads') kept
    → Stops r (outside before reads tells loan) (outside now reads' tells loan) kept
stops_untold r before now reads reads' tells loan kept h = record { kept = h.kept; reads = h.reads; tells = untold r h.tells; loan = refl }
  where
    untold : {A : Type 0} (r : Result A Stop) → TellsBecause r 0 0 → TellsBecause r tells tells
    untold (Ok v) b = refl
    untold (Err (stop.Tex f)) b = refl
    untold (Err (stop.Limit n)) b = refl
    untold (Err stop.ReadFailed) b = refl
    untold (Err stop.TellFailed) b = absurd (omega (arith, b))
    untold (Err stop.NoMemory) b = refl

-- one call behind another
pub stops_then : {A B : Type 0} (v : A) (r : Result B Stop) (a b c : Outside) (k kept : Option Stop) → Stops (Ok v) a b k → Stops r b c kept → Stops r a c kept
stops_then v r a b c k kept g h = record {
  kept = h.kept;
  reads = subst (λ n. ReadsBecause r n c.read_faults) g.reads h.reads;
  tells = subst (λ n. TellsBecause r n c.tell_faults) g.tells h.tells;
  loan = h.loan ∙ g.loan;
}

-- who isn't asked doesn't fail
pub stops_same : {A : Type 0} (r : Result A Stop) (n : Outside) (kept : Option Stop) → kept ≡ stop_after r → NothingFails r → Stops r n n kept
stops_same (Ok v) n kept e h = record { kept = e; reads = refl; tells = refl; loan = refl }
stops_same (Err (stop.Tex f)) n kept e h = record { kept = e; reads = refl; tells = refl; loan = refl }
stops_same (Err (stop.Limit l)) n kept e h = record { kept = e; reads = refl; tells = refl; loan = refl }
stops_same (Err stop.ReadFailed) n kept e h = absurd h
stops_same (Err stop.TellFailed) n kept e h = absurd h
stops_same (Err stop.NoMemory) n kept e h = record { kept = e; reads = refl; tells = refl; loan = refl }

pub silent_fails_not : {A : Type 0} (a : Answer A) (r : Result A Stop) (s : State) → Silent a r s → NothingFails r
silent_fails_not a (Ok v) s h = tt
silent_fails_not a (Err (stop.Tex f)) s h = tt
silent_fails_not a (Err (stop.Limit l)) s h = tt
silent_fails_not a (Err stop.ReadFailed) s h = h
silent_fails_not a (Err stop.TellFailed) s h = h
silent_fails_not a (Err stop.NoMemory) s h = tt

-- a stop is the same of any answer
reads_as : (A B : Type 0) (e : Stop) (x y : ℕ) → ReadsBecause {A = A} (Err e) x y → ReadsBecause {A = B} (Err e) x y
reads_as A B (stop.Tex f) x y h = h
reads_as A B (stop.Limit n) x y h = h
reads_as A B stop.ReadFailed x y h = h
reads_as A B stop.TellFailed x y h = h
reads_as A B stop.NoMemory x y h = h

tells_as : (A B : Type 0) (e : Stop) (x y : ℕ) → TellsBecause {A = A} (Err e) x y → TellsBecause {A = B} (Err e) x y
tells_as A B (stop.Tex f) x y h = h
tells_as A B (stop.Limit n) x y h = h
tells_as A B stop.ReadFailed x y h = h
tells_as A B stop.TellFailed x y h = h
tells_as A B stop.NoMemory x y h = h

pub stops_as : (A B : Type 0) (e : Stop) (x y : Outside) (k : Option Stop) → Stops {A = A} (Err e) x y k → Stops {A = B} (Err e) x y k
stops_as A B e x y k h = record { kept = h.kept; reads = reads_as A B e _ _ h.reads; tells = tells_as A B e _ _ h.tells; loan = h.loan }

-- the value of a call doesn't matter for its stop
pub stops_of : {A B : Type 0} (at : A → B) (r : Result A Stop) (x y : Outside) (k : Option Stop) → Stops (ok_at at r) x y k → Stops r x y k
stops_of at (Ok v) x y k h = record { kept = h.kept; reads = h.reads; tells = h.tells; loan = h.loan }
stops_of {A = A} {B = B} at (Err e) x y k h = stops_as B A e x y k h
