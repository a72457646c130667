-- A grammar on values that stand for others reads the same.
use Rattle.std.proofs.Common.{◌≡◌, ℕ, ℤ, zero, suc, Bool, true, false, List, [], ◌∷◌, ◌++◌, Option, Some, None, Result, Ok, Err, refl, sym, ap, ◌∙◌, subst}
use Rattle.texml_token.specs.Token.{Token}
use Rattle.texml_scope.specs.Texts.{Meaning}
use Rattle.texml_watch.specs.declared.record.Record.{Record}
use Rattle.texml_fixed.specs.declared.scaled.Scaled.{Scaled}
use Rattle.texml_fixed.specs.declared.glue.Glue.{Glue}
use Rattle.texml_scan.specs.declared.looks.Look.{Look}
use Rattle.texml_scan.specs.declared.looks.Look.TheVariants.{End}
use Rattle.texml_scan.specs.declared.looks.Held.TheVariants as held
use Rattle.texml_scan.specs.Grammar.{Expanded, Raw, Asked, Verdict, Wanting, Decided, Faulty, Remainder}
use Rattle.texml_scan.specs.Looked.{look_of}
use Rattle.texml_expand.specs.declared.stop.Stop.{Stop}
use Rattle.texml_expand.specs.declared.stop.Stop.TheVariants as stop
use Rattle.texml_expand.specs.State.{State, Gains, End as TheEnd, Tex, Limit, Answer, Done, Ended, Unfinished, Reading, after, chain, added, IsDecided}
use Rattle.texml_expand.specs.Take.{means}
use Rattle.texml_expand.specs.Calls.{Seen, looks, Calls}
use Rattle.texml_expand.specs.Quantities.{Looked, look_by, look, decided_on, without_end, next_looked, scan_token, scan_next, scan_on, scan_by}
use Rattle.texml_expand.specs.Expand.{level}
use Rattle.texml_expand.specs.declared.machine.Value.TheVariants as worths
use Rattle.texml_expand.specs.Machine.{mapped}
use Rattle.texml_expand.specs.Held.{Held, state_of}
use Rattle.texml_expand.specs.Contract.{Outside}
use Rattle.texml_expand.specs.Hearing.{MeetsFirst, MeetsCut, MeetsPart, MeetsEnd, Meets, Follows}
use Rattle.texml_base.specs.Outside.{Shelf}
use Rattle.texml_expand.specs.Doing.{Does}
use Rattle.texml_expand.specs.Spending.{Spent, SpendsBy}
use Rattle.texml_expand.specs.Scanning.{MayGive}
use Rattle.texml_expand.proofs.Meeting.{stops_as}
use Rattle.texml_expand.proofs.Running.{limit_as}
use Rattle.texml_expand.proofs.Spending.{spent_err, spent_ok}

-- an answer on other values
abbrev pub answered : {V W : Type 0} → (V → W) → Answer V → Answer W
answered f (Done v s gains) = Done (f v) s gains
answered f (Ended e gains) = Ended e gains
answered f (Unfinished gains) = Unfinished gains

answered_after : {V W : Type 0} (f : V → W) (gains : Gains) (a : Answer V) → after gains (answered f a) ≡ answered f (after gains a)
answered_after f gains (Done v s more) = refl
answered_after f gains (Ended e more) = refl
answered_after f gains (Unfinished more) = refl

answered_chain : {A V W : Type 0} (f : V → W) (a : Answer A) (k : A → Reading W) (j : A → Reading V) → ((v : A) (s : State) → k v s ≡ answered f (j v s)) → chain a k ≡ answered f (chain a j)
answered_chain f (Done v s gains) k j h = ap (after gains) (h v s) ∙ answered_after f gains (j v s)
answered_chain f (Ended e gains) k j h = refl
answered_chain f (Unfinished gains) k j h = refl

module _ {V W : Type 0} (f : V → W) where
  decided_same : (seen : List Seen) (v : Verdict V) (s : State) → decided_on seen (mapped f v) s ≡ answered f (decided_on seen v s)
  decided_same seen (Wanting w) s = refl
  decided_same seen (Decided v n) s = refl
  decided_same seen (Faulty fault) s = refl

  end_same : (v : Verdict V) → without_end (mapped f v) ≡ mapped f (without_end v)
  end_same (Wanting w) = refl
  end_same (Decided v n) = refl
  end_same (Faulty fault) = refl

  look_by_same : (c : Calls) (t : Token) (m : Meaning) (v : Verdict V) (s : State) → look_by c t m (mapped f v) s ≡ look_by c t m v s
  look_by_same c t m (Wanting Expanded) s = refl
  look_by_same c t m (Wanting Raw) s = refl
  look_by_same c t m (Wanting Asked) s = refl
  look_by_same c t m (Decided v n) s = refl
  look_by_same c t m (Faulty fault) s = refl

  -- a grammar and the one that it stands for
  module _ (g : Remainder W) (r : Remainder V) (same : (xs : List Look) → g xs ≡ mapped f (r xs)) where
    look_same : (c : Calls) (seen : List Seen) (t : Token) (s : State) → look c g seen t s ≡ look c r seen t s
    look_same c seen t s =
        let xs = looks seen ++ look_of t (means s.world t) held.Nothing ∷ [] in
        ap (λ v. look_by c t (means s.world t) v s) (same xs) ∙ look_by_same c t (means s.world t) (r xs) s

    -- one step, where each further one is the same
    module _ (c : Calls) (on : (seen : List Seen) (s : State) → c.scan g seen s ≡ answered f (c.scan r seen s)) where
      token_same : (seen : List Seen) (o : Option Looked) (s : State) → scan_token c g seen o s ≡ answered f (scan_token c r seen o s)
      token_same seen None s =
          ap (λ v. decided_on seen (without_end v) s) (same (looks seen ++ End ∷ [])) ∙ ap (λ v. decided_on seen v s) (end_same (r (looks seen ++ End ∷ []))) ∙ decided_same seen (without_end (r (looks seen ++ End ∷ []))) s
      token_same seen (Some x) s =
          ap (λ a. chain a (λ l. c.scan g (seen ++ record { token = x.token; look = l } ∷ []))) (look_same c seen x.counts s)
          ∙ answered_chain f (look c r seen x.counts s) (λ l. c.scan g (seen ++ record { token = x.token; look = l } ∷ [])) (λ l. c.scan r (seen ++ record { token = x.token; look = l } ∷ []))
          (λ l t. on (seen ++ record { token = x.token; look = l } ∷ []) t)

      next_same : (seen : List Seen) (raw : Bool) (s : State) → scan_next c g seen raw s ≡ answered f (scan_next c r seen raw s)
      next_same seen raw s = answered_chain f (next_looked c raw s) (scan_token c g seen) (scan_token c r seen) (token_same seen)

      on_same : (seen : List Seen) (v : Verdict V) (s : State) → scan_on c g seen (mapped f v) s ≡ answered f (scan_on c r seen v s)
      on_same seen (Wanting Expanded) s = next_same seen false s
      on_same seen (Wanting Raw) s = next_same seen true s
      on_same seen (Wanting Asked) s = refl
      on_same seen (Decided v n) s = decided_same seen (Decided v n) s
      on_same seen (Faulty fault) s = refl

      by_same : (seen : List Seen) (s : State) → scan_by c g seen s ≡ answered f (scan_by c r seen s)
      by_same seen s = ap (λ v. scan_on c g seen v s) (same (looks seen)) ∙ on_same seen (r (looks seen)) s

    scan_same : (n : ℕ) (seen : List Seen) (s : State) → (level n).scan g seen s ≡ answered f ((level n).scan r seen s)
    scan_same zero seen s = refl
    scan_same (suc n) seen s = by_same (level n) (scan_same n) seen s

-- From the answer on other values

added_same : {V W : Type 0} (f : V → W) (a : Answer V) → added (answered f a) ≡ added a
added_same f (Done v s gains) = refl
added_same f (Ended e gains) = refl
added_same f (Unfinished gains) = refl

decided_as : {V W : Type 0} (f : V → W) (a : Answer V) → IsDecided (answered f a) → IsDecided a
decided_as f (Done v s gains) d = tt
decided_as f (Ended e gains) d = tt
decided_as f (Unfinished gains) d = d

ended_as : {V W : Type 0} (f : V → W) (a : Answer V) (e : TheEnd) (gains : Gains) → answered f a ≡ Ended e gains → a ≡ Ended e gains
ended_as f (Done v s more) e gains h = cc
ended_as f (Ended x more) e gains h = cc
ended_as f (Unfinished more) e gains h = cc

-- the value that another one stands for
record Stands {V W : Type 0} (f : V → W) (w : W) (a : Answer V) (s : State) (gains : Gains) : Type 0 where
  value : V
  is : w ≡ f value
  done : a ≡ Done value s gains

stands_for : {V W : Type 0} (f : V → W) (a : Answer V) (w : W) (s : State) (gains : Gains) → answered f a ≡ Done w s gains → Stands f w a s gains
stands_for f (Done v t more) w s gains h = record { value = v; is = cc; done = cc }
stands_for f (Ended e more) w s gains h = cc
stands_for f (Unfinished more) w s gains h = cc

module _ {T : Type 0} (hear part : T → Record → T → Type 0) {V W : Type 0} (f : V → W) where
  end_meets : (a : Answer V) (e : TheEnd) (x y : T) → MeetsEnd hear part (answered f a) e x y → MeetsEnd hear part a e x y
  end_meets a e x y m = record { gains = m.gains; is = ended_as f a e m.gains m.is; heard = m.heard }

  first_meets : (a : Answer V) (x y : T) → MeetsFirst hear part (answered f a) x y → MeetsFirst hear part a x y
  first_meets a x y m = record { rows = m.rows; more = m.more; is = sym (ap (λ (k : Gains). k.records) (added_same f a)) ∙ m.is; heard = m.heard }

  cut_meets : (a : Answer V) (x y : T) → MeetsCut hear part (answered f a) x y → MeetsCut hear part a x y
  cut_meets a x y m = record { rows = m.rows; last = m.last; more = m.more; is = sym (ap (λ (k : Gains). k.records) (added_same f a)) ∙ m.is; heard = m.heard }

  part_meets : (a : Answer V) (x y : T) → MeetsPart hear part (answered f a) x y → MeetsPart hear part a x y
  part_meets a x y m = record { rows = m.rows; last = m.last; more = m.more; is = sym (ap (λ (k : Gains). k.records) (added_same f a)) ∙ m.is; heard = m.heard }

  stop_meets : (a : Answer V) (e : Stop) (s : State) (x y : T) → Meets hear part (answered f a) (Err e) s x y → Meets hear part a (Err e) s x y
  stop_meets a (stop.Tex n) s x y m = end_meets a (Tex n) x y m
  stop_meets a (stop.Limit n) s x y m = end_meets a (Limit n) x y m
  stop_meets a stop.ReadFailed s x y m = first_meets a x y m
  stop_meets a stop.TellFailed s x y m = cut_meets a x y m
  stop_meets a stop.NoMemory s x y m = part_meets a x y m

  -- the answer of some depth stands for the one that was decided
  record Met (q : ℕ → Answer V) (r : Result W Stop) (s : State) (x y : T) : Type 0 where
    depth : ℕ
    decided : IsDecided (q depth)
    meets : Meets hear part (answered f (q depth)) r s x y

  module _ (p : ℕ → Answer W) (q : ℕ → Answer V) (same : (n : ℕ) → p n ≡ answered f (q n)) where
    met : (r : Result W Stop) (s : State) (x y : T) → Follows hear part p r s x y → Met q r s x y
    met r s x y k =
        let d = k.given in
        let is = sym (same d.depth) ∙ d.is in
        record { depth = d.depth; decided = decided_as f (q d.depth) (subst IsDecided (sym is) d.decided); meets = subst (λ z. Meets hear part z r s x y) (sym is) k.meets }

    pub spends_as : {B : Type 0} (r : Result B Stop) (before now : Shelf) (old new : Held) → SpendsBy p r before now old new → SpendsBy q r before now old new
    spends_as r before now old new spends told little =
        let k = spends told little in
        let d = k.given in
        let is = sym (same d.depth) ∙ d.is in
        record {
          answer = q d.depth;
          given = record { depth = d.depth; is = refl; decided = decided_as f (q d.depth) (subst IsDecided (sym is) d.decided) };
          spent =
              subst (λ g. Spent r before now old.input.sources new.input.sources g) (sym (ap (λ (z : Answer W). added z) is) ∙ added_same f (q d.depth)) k.spent;
        }

    pub follows_stop : (e : Stop) (s : State) (x y : T) → Follows hear part p (Err e) s x y → Follows hear part q (Err e) s x y
    follows_stop e s x y k =
        let m = met (Err e) s x y k in
        record { answer = q m.depth; given = record { depth = m.depth; is = refl; decided = m.decided }; meets = stop_meets (q m.depth) e s x y m.meets }

    -- the value
    pub record ValueOf (w : W) (s : State) (x y : T) : Type 0 where
      pub value : V
      pub is : w ≡ f value
      pub follows : Follows hear part q (Ok value) s x y

    pub follows_value : (w : W) (s : State) (x y : T) → Follows hear part p (Ok w) s x y → ValueOf w s x y
    follows_value w s x y k =
        let m = met (Ok w) s x y k in
        let v = stands_for f (q m.depth) w s m.meets.gains m.meets.is in
        record {
          value = v.value;
          is = v.is;
          follows = record { answer = q m.depth; given = record { depth = m.depth; is = refl; decided = m.decided }; meets = record { gains = m.meets.gains; is = v.done; heard = m.meets.heard } };
        }

  -- what a scanner of the code reads, on the values themselves
  module _ (g : Remainder W) (r : Remainder V) (same : (xs : List Look) → g xs ≡ mapped f (r xs)) where
    pub scan_stop : (e : Stop) (old new : Held) (i j : Outside) (x y : T) → Does hear part (λ n. (level n).scan g []) (Err e) old new i j x y → Does hear part (λ n. (level n).scan r []) (Err e) old new i j x y
    scan_stop e old new i j x y d = record {
      follows = λ told.
          let s = state_of i.shelf old in
          follows_stop (λ n. (level n).scan g [] s) (λ n. (level n).scan r [] s) (λ n. scan_same f g r same n [] s) e (state_of j.shelf new) x y (d.follows told);
      spends = λ told little.
          let s = state_of i.shelf old in
          let k = spends_as (λ n. (level n).scan g [] s) (λ n. (level n).scan r [] s) (λ n. scan_same f g r same n [] s) {B = W} (Err e) i.shelf j.shelf old new d.spends told little in
          record { answer = k.answer; given = k.given; spent = spent_err W V e i.shelf j.shelf old.input.sources new.input.sources (added k.answer) k.spent };
      stops = stops_as W V e i j new.stop d.stops;
      limit = limit_as W V e new d.limit;
      keeps = tt;
      progress = d.progress;
      holds = d.holds;
    }

    pub scan_of : (v : V) (w : W) (old new : Held) (i j : Outside) (x y : T) → w ≡ f v → ((a b : V) → f a ≡ f b → a ≡ b) → Does hear part (λ n. (level n).scan g []) (Ok w) old new i j x y → Does hear part (λ n. (level n).scan r []) (Ok v) old new i j x y
    scan_of v w old new i j x y e one d = record {
      follows = λ told.
          let s = state_of i.shelf old in
          let k = follows_value (λ n. (level n).scan g [] s) (λ n. (level n).scan r [] s) (λ n. scan_same f g r same n [] s) w (state_of j.shelf new) x y (d.follows told) in
          subst (λ z. Follows hear part (λ n. (level n).scan r [] s) (Ok z) (state_of j.shelf new) x y) (one k.value v (sym k.is ∙ e)) k.follows;
      spends = λ told little.
          let s = state_of i.shelf old in
          let k = spends_as (λ n. (level n).scan g [] s) (λ n. (level n).scan r [] s) (λ n. scan_same f g r same n [] s) (Ok w) i.shelf j.shelf old new d.spends told little in
          record { answer = k.answer; given = k.given; spent = spent_ok w v i.shelf j.shelf old.input.sources new.input.sources (added k.answer) k.spent };
      stops = record { kept = d.stops.kept; reads = d.stops.reads; tells = d.stops.tells; loan = d.stops.loan };
      limit = tt;
      keeps = d.keeps;
      progress = d.progress;
      holds = d.holds;
    }

-- a scanner of the code decides on such values alone
module _ {V W : Type 0} (f : V → W) (g : Remainder W) (r : Remainder V) (same : (xs : List Look) → g xs ≡ mapped f (r xs)) where
  pub record ScanGives (w : W) : Type 0 where
    pub value : V
    pub is : w ≡ f value
    pub gives : MayGive r value

  verdict_gives : (xs : List Look) (v : Verdict V) (w : W) (n : ℕ) → r xs ≡ v → mapped f v ≡ Decided w n → ScanGives w
  verdict_gives xs (Wanting x) w n e h = cc
  verdict_gives xs (Decided v m) w n e h = record { value = v; is = cc; gives = record { looks = xs; back = m; is = e } }
  verdict_gives xs (Faulty x) w n e h = cc

  pub scan_gives : (w : W) → MayGive g w → ScanGives w
  scan_gives w m = verdict_gives m.looks (r m.looks) w m.back refl (sym (same m.looks) ∙ m.is)

  pub gives_of : (v : V) (w : W) → w ≡ f v → ((a b : V) → f a ≡ f b → a ≡ b) → MayGive g w → MayGive r v
  gives_of v w e one m = let k = scan_gives w m in subst (MayGive r) (one k.value v (sym k.is ∙ e)) k.gives

-- the code's values are told apart
pub int_same : (a b : ℤ) → worths.Int a ≡ worths.Int b → a ≡ b
int_same a b e = cc

pub dimen_same : (a b : Scaled) → worths.Dimen a ≡ worths.Dimen b → a ≡ b
dimen_same a b e = cc

pub glue_same : (a b : Glue) → worths.Glue a ≡ worths.Glue b → a ≡ b
glue_same a b e = cc

pub found_same : (a b : Bool) → worths.Found a ≡ worths.Found b → a ≡ b
found_same a b e = cc
