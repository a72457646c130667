-- Fetching and expanding, step by step.
use Rattle.std.proofs.Common.{◌≡◌, ◌+◌, ◌-◌, ◌≤◌, ◌<◌, ℕ, Bool, List, Option, Some, None, Result, Ok, Err, refl, sym, subst, arith}
use Rattle.std.specs.Result.{OnOk}
use Rattle.texml_token.specs.Token.{Token}
use Rattle.texml_watch.specs.declared.record.Record.{Record}
use Rattle.texml_expand.specs.declared.stop.Stop.{Stop}
use Rattle.texml_base.specs.Outside.{Shelf}
use Rattle.texml_input.specs.Held.{Plain}
use Rattle.texml_input.specs.Next.{Taken}
use Rattle.texml_expand.specs.declared.variables.Index.{Index}
use Rattle.texml_expand.specs.State.{Answer, Done, Ended, Unfinished, Reading, chain, ◌>>=◌}
use Rattle.texml_expand.specs.Calls.{Expandable, Input, Gift}
use Rattle.texml_expand.specs.declared.engine.expanding.Gift.{Gift as GiftCode}
use Rattle.texml_expand.specs.Quantities.{Looked, read_index, next_looked}
use Rattle.texml_expand.specs.Expand.{Front, Nothing, Plain, Expands, front, begin, given, finish, expand_by, fetch_front, level}
use Rattle.texml_expand.specs.declared.engine.expanding.Front.{Front as FrontCode}
use Rattle.texml_expand.specs.Fronts.{front_at, gift_at}
use Rattle.texml_expand.specs.Held.{Held, state_of, Sound, Kept, Progress, IsAtLimit, Owns, SameFiles, Shrinks, Begun}
use Rattle.texml_expand.specs.Contract.{Local, Outside, outside, files_at, Stops, stop_after}
use Rattle.texml_expand.specs.Hearing.{Meets}
use Rattle.texml_expand.specs.Include.{file_name, opened, opening}
use Rattle.texml_expand.specs.Doing.{Does, Gets, Tells}
use Rattle.texml_expand.proofs.Running.{shrinks_none, shrinks_then, shrinks_begun, holding_same}
use Rattle.texml_expand.proofs.Lawful.{lawful_fetch, lawful_expand}
use Rattle.texml_expand.proofs.Total.{total, fetch_is, expand_is}
use Rattle.texml_expand.proofs.Including.{lawful_file_name, lawful_opened}
use Rattle.texml_expand.proofs.Levels.{lawful_given}
use Rattle.texml_expand.proofs.Doing.{Did, does_of, did_of, did_as, did_then, did_stop, did_silent, did_gets, did_now, does_stop}
use Rattle.texml_expand.proofs.Fronts.{begun_kept}
use Rattle.texml_expand.proofs.Spending.{chain_after, spends_same}

-- one reading, and what follows two of them
chain_chain : {A B C : Type 0} (x : Answer A) (f : A → Reading B) (k : B → Reading C) → chain (chain x f) k ≡ chain x (λ v. f v >>= k)
chain_chain (Done a s gains) f k = chain_after gains (f a s) k
chain_chain (Ended e gains) f k = refl
chain_chain (Unfinished gains) f k = refl

-- less is left to read
pub begun_smaller : (j : ℕ) (a b : Shelf) (old mid new : Held) → Shrinks j a old b mid → Begun mid new → new.limit - new.begun < old.limit - old.begun
begun_smaller j a b old mid new g h = omega (arith, g.begun, g.limit, h.begun, h.limit, h.within)

module _ {T : Type 0} (hear part : T → Record → T → Type 0) where
  abbrev Fetch : Result (Option Taken) Stop → Held → Held → Outside → Outside → T → T → Type 0
  Fetch r old new f g a b = Did hear part (total.fetch (state_of f.shelf old)) r old new f g a b

  -- an engine that fetches: what it does from now on is what the whole does
  pub record Fetching (old : Held) (f : Outside) (a : T) (now : Held) (g : Outside) (b : T) : Type 0 where
    pub running : now.stop ≡ None
    pub sound : Sound now
    pub owns : Owns g.shelf now
    pub lower : Shrinks 0 f.shelf old g.shelf now
    pub on : (r : Result (Option Taken) Stop) (new : Held) (h : Outside) (c : T) → Fetch r now new g h b c → Fetch r old new f h a c

  pub fetching_none : (h : Held) (f : Outside) (a : T) → h.stop ≡ None → Sound h → Owns f.shelf h → Fetching h f a h f a
  fetching_none h f a running sound owns = record { running = running; sound = sound; owns = owns; lower = shrinks_none f.shelf h; on = λ r new g c d. d }

  -- the front is taken
  pub front_did : (x y : FrontCode) (old new : Held) (before now : Shelf) (reads reads' tells loan : ℕ) (a : T) → x ≡ y → Gets front (Ok (front_at new.names x)) old new (files_at before reads) (files_at now reads')
      → Did hear part (front (state_of before old)) (Ok (front_at new.names y)) old new (outside before reads tells loan) (outside now reads' tells loan) a a
  front_did x y old new before now reads reads' tells loan a e d =
      did_gets hear part front (Ok (front_at new.names y)) old new before now reads reads' tells loan a
      (subst (λ z. Gets front (Ok (front_at new.names z)) old new (files_at before reads) (files_at now reads')) e d)

  -- what is fetched by the front
  by_front : (x : Front) (r : Result (Option Taken) Stop) (now mid new : Held) (g m h : Outside) (b c : T) → Did hear part (front (state_of g.shelf now)) (Ok x) now mid g m b b → Did hear part (fetch_front total x (state_of m.shelf mid)) r mid new m h b c
      → Fetch r now new g h b c
  by_front x r now mid new g m h b c d e =
      did_as hear part _ _ r now new g h b c (fetch_is (state_of g.shelf now)) (did_then hear part (front (state_of g.shelf now)) (fetch_front total) x r now mid new g m h b b c d e)

  front_stops : (e : Stop) (now new : Held) (g h : Outside) (b : T) → Did hear part (front (state_of g.shelf now)) (Err e) now new g h b b → Fetch (Err e) now new g h b b
  front_stops e now new g h b d = did_as hear part _ _ (Err e) now new g h b b (fetch_is (state_of g.shelf now)) (did_stop hear part (front (state_of g.shelf now)) (fetch_front total) e now new g h b b d)

  pub fetch_does : (r : Result (Option Taken) Stop) (old now new : Held) (f g h : Outside) (a b c : T) → Fetching old f a now g b → Fetch r now new g h b c → Does hear part (λ n. (level n).fetch) r old new f h a c
  fetch_does r old now new f g h a b c i d = does_of hear part (λ c. c.fetch) lawful_fetch r old new f h a c (i.on r new h c d)

  pub fetch_stops : (e : Stop) (old now new : Held) (f g h : Outside) (a b : T) → Fetching old f a now g b → Did hear part (front (state_of g.shelf now)) (Err e) now new g h b b → Does hear part (λ n. (level n).fetch) (Err e) old new f h a b
  fetch_stops e old now new f g h a b i d = fetch_does (Err e) old now new f g h a b b i (front_stops e now new g h b d)

  pub fetch_ends : (old now new : Held) (f g h : Outside) (a b : T) → Fetching old f a now g b → Did hear part (front (state_of g.shelf now)) (Ok Nothing) now new g h b b → Does hear part (λ n. (level n).fetch) (Ok None) old new f h a b
  fetch_ends old now new f g h a b i d = fetch_does (Ok None) old now new f g h a b b i (by_front Nothing (Ok None) now new new g h h b b d (did_now hear part None new h b d.keeps.sound d.stops.kept d.holds.owns))

  pub fetch_plain : (t : Taken) (old now new : Held) (f g h : Outside) (a b : T) → Fetching old f a now g b → Did hear part (front (state_of g.shelf now)) (Ok (Plain t)) now new g h b b → Does hear part (λ n. (level n).fetch) (Ok (Some t)) old new f h a b
  fetch_plain t old now new f g h a b i d = fetch_does (Ok (Some t)) old now new f g h a b b i (by_front (Plain t) (Ok (Some t)) now new new g h h b b d (did_now hear part (Some t) new h b d.keeps.sound d.stops.kept d.holds.owns))

  -- behind one more expansion
  pub fetching_on : (t : Token) (x : Expandable) (old now mid new : Held) (f g m h : Outside) (a b c : T) → Fetching old f a now g b → Did hear part (front (state_of g.shelf now)) (Ok (Expands t x)) now mid g m b b → Shrinks 1 g.shelf now m.shelf mid
      → Does hear part (λ n. (level n).expand t x) (Ok tt) mid new m h b c → Begun mid new → Fetching old f a new h c
  fetching_on t x old now mid new f g m h a b c i d low e begun = record {
    running = e.stops.kept;
    sound = e.keeps.sound;
    owns = e.holds.owns;
    lower = shrinks_begun 1 0 f.shelf m.shelf h.shelf old mid new (shrinks_then 0 1 1 f.shelf g.shelf m.shelf old now mid i.lower low (omega arith)) begun;
    on = λ r z k y u. i.on r z k y (by_front (Expands t x) r now mid z g m k b y d
        (did_then hear part (total.expand t x (state_of m.shelf mid)) (λ _. total.fetch) tt r mid new z m h k b c y (did_of hear part (λ c. c.expand t x) (lawful_expand t x) (Ok tt) mid new m h b c e) u));
  }

  pub fetch_unexpanded : (t : Token) (x : Expandable) (e : Stop) (old now mid new : Held) (f g m h : Outside) (a b c : T) → Fetching old f a now g b → Did hear part (front (state_of g.shelf now)) (Ok (Expands t x)) now mid g m b b
      → Does hear part (λ n. (level n).expand t x) (Err e) mid new m h b c → Does hear part (λ n. (level n).fetch) (Err e) old new f h a c
  fetch_unexpanded t x e old now mid new f g m h a b c i d k =
      fetch_does (Err e) old now new f g h a b c i (by_front (Expands t x) (Err e) now mid new g m h b c d
      (did_stop hear part (total.expand t x (state_of m.shelf mid)) (λ _. total.fetch) e mid new m h b c (did_of hear part (λ c. c.expand t x) (lawful_expand t x) (Err e) mid new m h b c k)))

  -- an expansion, by its parts
  abbrev Expand : Token → Expandable → Result (Unit {0}) Stop → Held → Held → Outside → Outside → T → T → Type 0
  Expand t e r old new f g a b = Did hear part (total.expand t e (state_of f.shelf old)) r old new f g a b

  -- expanding
  expand_does : (t : Token) (x : Expandable) (r : Result (Unit {0}) Stop) (old new : Held) (f g : Outside) (a b : T) → Did hear part (expand_by total t x (state_of f.shelf old)) r old new f g a b → Does hear part (λ n. (level n).expand t x) r old new f g a b
  expand_does t x r old new f g a b d = does_of hear part (λ c. c.expand t x) (lawful_expand t x) r old new f g a b (did_as hear part _ _ r old new f g a b (expand_is t x (state_of f.shelf old)) d)

  pub expand_stops : (t : Token) (x : Expandable) (e : Stop) (old new : Held) (f : Outside) (a : T) → Did hear part (begin (state_of f.shelf old)) (Err e) old new f f a a → Does hear part (λ n. (level n).expand t x) (Err e) old new f f a a
  expand_stops t x e old new f a d = expand_does t x (Err e) old new f f a a (did_stop hear part (begin (state_of f.shelf old)) _ e old new f f a a d)

  pub expand_ungiven : (t : Token) (x : Expandable) (e : Stop) (old mid new : Held) (f g : Outside) (a b : T) → Did hear part (begin (state_of f.shelf old)) (Ok tt) old mid f f a a → Does hear part (λ n. given (level n) t x) (Err e) mid new f g a b
      → Does hear part (λ n. (level n).expand t x) (Err e) old new f g a b
  expand_ungiven t x e old mid new f g a b d k =
      expand_does t x (Err e) old new f g a b (did_then hear part (begin (state_of f.shelf old)) _ tt (Err e) old mid new f f g a a b d
      (did_stop hear part (given total t x (state_of f.shelf mid)) (finish t) e mid new f g a b (did_of hear part (λ c. given c t x) (lawful_given t x) (Err e) mid new f g a b k)))

  pub expand_ends : (t : Token) (x : Expandable) (gift : Gift) (r : Result (Unit {0}) Stop) (old mid now new : Held) (f g h : Outside) (a b c : T) → Did hear part (begin (state_of f.shelf old)) (Ok tt) old mid f f a a
      → Does hear part (λ n. given (level n) t x) (Ok gift) mid now f g a b → Did hear part (finish t gift (state_of g.shelf now)) r now new g h b c → Does hear part (λ n. (level n).expand t x) r old new f h a c
  expand_ends t x gift r old mid now new f g h a b c d k u =
      expand_does t x r old new f h a c (did_then hear part (begin (state_of f.shelf old)) _ tt r old mid new f f h a a c d
      (did_then hear part (given total t x (state_of f.shelf mid)) (finish t) gift r mid now new f g h a b c (did_of hear part (λ c. given c t x) (lawful_given t x) (Ok gift) mid now f g a b k) u))

  pub expand_same : (t : Token) (x y : Expandable) (r : Result (Unit {0}) Stop) (old new : Held) (f g : Outside) (a b : T) → x ≡ y → Does hear part (λ n. (level n).expand t x) r old new f g a b → Does hear part (λ n. (level n).expand t y) r old new f g a b
  expand_same t x y r old new f g a b e d = subst (λ z. Does hear part (λ n. (level n).expand t z) r old new f g a b) e d

  -- \input, of which no name is read, or one that opens a file
  pub expand_unnamed : (t : Token) (e : Stop) (old mid new : Held) (f g : Outside) (a b : T) → Did hear part (begin (state_of f.shelf old)) (Ok tt) old mid f f a a → Does hear part (λ n. file_name (level n)) (Err e) mid new f g a b
      → Does hear part (λ n. (level n).expand t Input) (Err e) old new f g a b
  expand_unnamed t e old mid new f g a b d k = expand_ungiven t Input e old mid new f g a b d (does_stop hear part file_name (λ name c. opened name) lawful_file_name lawful_opened e mid new f g a b k)

  did_told : {A : Type 0} (x : Reading A) (r : Result A Stop) (old new : Held) (f g : Outside) (a b : T) → Tells hear part x r old new f g a b → Did hear part (x (state_of f.shelf old)) r old new f g a b
  did_told x r old new f g a b d = record { meets = d.meets; spends = d.spends; stops = d.stops; limit = d.limit; keeps = d.keeps; progress = d.progress; holds = d.holds }

  pub expand_opens : (t : Token) (name : List ℕ) (r : Result (Unit {0}) Stop) (old mid now new : Held) (f g h : Outside) (a b c : T) → Did hear part (begin (state_of f.shelf old)) (Ok tt) old mid f f a a
      → Does hear part (λ n. file_name (level n)) (Ok name) mid now f g a b → Tells hear part (opening t name) r now new g h b c → Does hear part (λ n. (level n).expand t Input) r old new f h a c
  expand_opens t name r old mid now new f g h a b c d k u =
      expand_does t Input r old new f h a c (did_then hear part (begin (state_of f.shelf old)) _ tt r old mid new f f h a a c d
      (did_as hear part _ _ r mid new f h a c (chain_chain (file_name total (state_of f.shelf mid)) opened (finish t))
      (did_then hear part (file_name total (state_of f.shelf mid)) (opening t) name r mid now new f g h a b c (did_of hear part file_name lawful_file_name (Ok name) mid now f g a b k)
      (did_told (opening t name) r now new g h b c u))))

  -- the same expansion
  pub given_as : (t u : Token) (x y : Expandable) (r : Result Gift Stop) (old new : Held) (f g : Outside) (a b : T) → u ≡ t → y ≡ x → Does hear part (λ n. given (level n) t x) r old new f g a b → Does hear part (λ n. given (level n) u y) r old new f g a b
  given_as t u x y r old new f g a b s e d = subst (λ z. Does hear part (λ n. given (level n) u z) r old new f g a b) (sym e) (subst (λ z. Does hear part (λ n. given (level n) z x) r old new f g a b) (sym s) d)

  -- an expansion begins
  pub begins_did : (r : Result (Unit {0}) Stop) (old new : Held) (f : Outside) (a : T) → Sound old → Local begin r old new → new.stop ≡ stop_after r → OnOk r (new ≡ record old { begun = old.begun + 1; nesting = old.nesting + 1 })
      → OnOk r (new.begun ≤ new.limit) → IsAtLimit r new → Progress old new → SameFiles old new → Owns f.shelf old → Did hear part (begin (state_of f.shelf old)) r old new f f a a
  begins_did (Ok tt) old new f a sound is kept same fits limit progress files owns =
      did_silent hear part (begin (state_of f.shelf old)) (Ok tt) old new f a (is f.shelf) kept limit (begun_kept old new same fits sound) progress files owns
  begins_did (Err e) old new f a sound is kept same fits limit progress files owns = did_silent hear part (begin (state_of f.shelf old)) (Err e) old new f a (is f.shelf) kept limit tt progress files owns

  -- and ends
  pub finish_did : (t u : Token) (gift : GiftCode) (r : Result (Unit {0}) Stop) (old new : Held) (shelf : Shelf) (reads tells tells' loan loan' : ℕ) (a b : T) → u ≡ t
      → ((shelf : Shelf) → Meets hear part (finish u (gift_at old.names gift) (state_of shelf old)) r (state_of shelf new) a b) → ((shelf : Shelf) (reads : ℕ) → Stops r (outside shelf reads tells loan) (outside shelf reads tells' loan') new.stop)
      → OnOk r (Kept old new) → IsAtLimit r new → Progress old new → SameFiles old new → Owns shelf old
      → Did hear part (finish t (gift_at old.names gift) (state_of shelf old)) r old new (outside shelf reads tells loan) (outside shelf reads tells' loan') a b
  finish_did t u gift r old new shelf reads tells tells' loan loan' a b e meets stops keeps limit progress files owns = record {
    meets = λ told. subst (λ x. Meets hear part (finish x (gift_at old.names gift) (state_of shelf old)) r (state_of shelf new) a b) e (meets shelf);
    spends = spends_same (finish t (gift_at old.names gift) (state_of shelf old)) r shelf old new files;
    stops = stops shelf reads;
    limit = limit;
    keeps = keeps;
    progress = progress;
    holds = holding_same shelf old new owns files;
  }

  -- the same index
  pub index_as : (x y : Index) (r : Result ℕ Stop) (old new : Held) (f g : Outside) (a b : T) → y ≡ x → Does hear part (λ n. read_index (level n) x) r old new f g a b → Does hear part (λ n. read_index (level n) y) r old new f g a b
  index_as x y r old new f g a b e d = subst (λ z. Does hear part (λ n. read_index (level n) z) r old new f g a b) (sym e) d

  -- the same way to look
  pub looked_as : (x y : Bool) (r : Result (Option Looked) Stop) (old new : Held) (f g : Outside) (a b : T) → y ≡ x → Does hear part (λ n. next_looked (level n) x) r old new f g a b → Does hear part (λ n. next_looked (level n) y) r old new f g a b
  looked_as x y r old new f g a b e d = subst (λ z. Does hear part (λ n. next_looked (level n) z) r old new f g a b) (sym e) d
