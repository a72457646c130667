-- Tokens that are fed until they decide, as the readings by the least number of next tokens see them.
use Rattle.std.proofs.Common.{◌≡◌, ◌≤◌, ◌<◌, ℕ, ◌+◌, zero, suc, Bool, true, false, List, [], ◌∷◌, ◌++◌, length, length-append, append_assoc, append-nil, take, take_all, IsTrue, None, Some, Result, Ok, Err, refl, sym, ap, ◌∙◌, subst, arith, inl, inr, eq-or-lt_of_le}
use Rattle.std.proofs.lemmas.Bool.{cases_lt}
use Rattle.std.proofs.lemmas.List.{map-append, length-map, take-append-le}
use Rattle.std.proofs.lemmas.List.Elements.{All-nil, All-push, All-take}
use Rattle.std.proofs.Math.Seq.{take-append_seam}
use Rattle.texml_token.specs.Token.{Token}
use Rattle.texml_token.specs.Numbers.{Table, Numbered, Extends, token_at, tokens_at, TokenWithin, TokensWithin}
use Rattle.texml_token.specs.declared.tokens.Token.{Token as TokenCode}
use Rattle.texml_token.proofs.Table.{extends_refl, extends_trans}
use Rattle.texml_token.proofs.Translation.{tokens_kept, tokens_more}
use Rattle.texml_expand.specs.declared.stop.Stop.{Stop}
use Rattle.texml_expand.specs.declared.stop.Stop.TheVariants as stop
use Rattle.texml_expand.specs.declared.feeding.Verdict.{Verdict}
use Rattle.texml_expand.specs.declared.feeding.Verdict.TheVariants.{TooShort, Yields, Refuses}
use Rattle.texml_expand.specs.State.{State, End, Tex, Limit, Gains, bytes_in, nothing, loads, ◌⊕◌, Answer, Done, Ended, Reading, room, after, chain, added, give}
use Rattle.texml_expand.specs.Held.{Held, place_of, state_of, Sound, Kept, Owns, SameFiles, Shrinks, ok_at}
use Rattle.texml_expand.specs.Contract.{Quiet, Outside, IsFaultAt}
use Rattle.texml_expand.specs.Doing.{Gets, Runs}
use Rattle.texml_expand.specs.Spending.{Spent, Spends}
use Rattle.texml_base.specs.Outside.{Shelf}
use Rattle.texml_input.specs.Held.{Source, AreLittle}
use Rattle.texml_expand.specs.Least.{inner_token, next_tokens, least, decides, decided, is_enough, by_least}
use Rattle.texml_expand.specs.Feeding.{Judge, IsFed, Short, Seen, Settled, CutShort, Refused, Cut, Feeds, FeedsTold, FedGains, Deciding, Behind, FedSpent, FedSpends, FedBy}
use Rattle.texml_expand.proofs.Spending.{plus_nothing, bytes_plus, opened_plus, added_after, bytes_chain, opened_chain, spent_same, spent_more, spent_err, spent_ok, spent_at, spent_fails, spent_then}
use Rattle.texml_expand.proofs.Leading.{leads_at}
use Rattle.texml_expand.proofs.Fronts.{kept_then, kept_itself}
use Rattle.texml_expand.proofs.Running.{told_on, shrinks_none, shrinks_then, runs_then, runs_as, runs_now, runs_stop, runs_fault, runs_out, gets_runs}
use Rattle.texml_expand.proofs.Least.{Took, takes_room, next_took, one_more, choose_no, by_least_at, by_least_ends}

-- one more token behind the first k
tokens_more_one : (old now new : State) (list : List Token) (t : Token) (k : ℕ) (sizes more : List ℕ) → next_tokens k old ≡ Done list now (loads sizes) → inner_token now ≡ Done t new (loads more)
    → next_tokens (suc k) old ≡ Done (list ++ t ∷ []) new (loads (sizes ++ more))
tokens_more_one old now new list t k sizes more e h =
    ap (λ a. chain a one_more) e ∙ ap (λ a. after (loads sizes) (chain a (λ x. give (list ++ x ∷ [])))) h ∙ ap (λ l. Done (list ++ t ∷ []) new (loads (sizes ++ l))) (append-nil more)

tokens_end : (old now : State) (list : List Token) (end : End) (k : ℕ) (sizes more : List ℕ) → next_tokens k old ≡ Done list now (loads sizes) → inner_token now ≡ Ended end (loads more) → next_tokens (suc k) old ≡ Ended end (loads (sizes ++ more))
tokens_end old now list end k sizes more e h = ap (λ a. chain a one_more) e ∙ ap (λ a. after (loads sizes) (chain a (λ x. give (list ++ x ∷ [])))) h

pub push_length : {A : Type 0} (list : List A) (t : A) → length (list ++ t ∷ []) ≡ suc (length list)
push_length list t = omega (arith, length-append list (t ∷ []))

-- these tokens of the code were taken, and each first part of them
pub record FedTokens (s : State) (texts : Table) (seen : List TokenCode) (t : State) : Type 0 where
  pub sizes : List ℕ
  pub tokens : next_tokens (length seen) s ≡ Done (tokens_at texts seen) t (loads sizes)
  pub fronts : (j : ℕ) → j < length seen → (m : State) × (z : List ℕ) × (next_tokens j s ≡ Done (tokens_at texts (take j seen)) m (loads z))

-- an engine that feeds: these tokens were fed, and no first part of them decides
pub record Feeding {V : Type 0} (first : Judge V) (old : Held) (f : Outside) (judge : Judge V) (now : Held) (g : Outside) : Type 0 where
  pub running : now.stop ≡ None
  pub sound : Sound now
  pub owns : Owns g.shelf now
  pub kept : Kept old now
  pub runs : Runs {A = Unit {0}} (Ok tt) old now f g
  pub seen : List TokenCode
  pub within : TokensWithin (length now.names) seen
  pub lower : Shrinks (length seen) f.shelf old g.shelf now
  pub fed : IsTrue f.shelf.tells → FedTokens (state_of f.shelf old) now.names seen (state_of g.shelf now)
  pub pays : (told : IsTrue f.shelf.tells) → AreLittle old.input.sources → Spent {A = Unit {0}} (Ok tt) f.shelf g.shelf old.input.sources now.input.sources (loads (fed told).sizes)
  pub short : (texts : Table) → Extends now.names texts → (j : ℕ) → j ≤ length seen → first texts (take j seen) ≡ TooShort
  pub on : (texts : Table) → Extends now.names texts → (more : List TokenCode) → judge texts more ≡ first texts (seen ++ more)

pub feeding_none : {V : Type 0} (judge : Judge V) (h : Held) (f : Outside) → h.stop ≡ None → Sound h → Owns f.shelf h → ((texts : Table) → judge texts [] ≡ TooShort) → Feeding judge h f judge h f
feeding_none judge h f running sound owns short = record {
  running = running;
  sound = sound;
  owns = owns;
  kept = kept_itself h sound;
  runs = runs_now tt h f sound running owns;
  seen = [];
  within = All-nil (TokenWithin (length h.names));
  lower = shrinks_none f.shelf h;
  fed = λ told. record { sizes = []; tokens = refl; fronts = λ j lt. absurd (omega (arith, lt)) };
  pays = λ told little. spent_same (Ok tt) f.shelf h.input.sources h.input.sources (loads []) refl little;
  short = λ texts g j le. ap (judge texts) (take_all j [] (omega arith)) ∙ short texts;
  on = λ texts g more. refl;
}

-- the table of an engine is the one by which it is fed
pub fed_by : {V : Type 0} (judge judge' : Judge V) (t : TokenCode) (verdict : Verdict V) (names given : Table) → names ≡ given → ((texts : Table) → Extends names texts → IsFed judge t verdict judge' texts)
    → (texts : Table) → Extends given texts → IsFed judge t verdict judge' texts
fed_by judge judge' t verdict names given e fed texts x = fed texts (subst (λ n. Extends n texts) (sym e) x)

-- one more token was taken
module _ (s now new : State) (names texts : Table) (g : Extends names texts) (seen : List TokenCode) (t : TokenCode) (within : TokensWithin (length names) seen) (k : FedTokens s names seen now) (more : List ℕ) (takes : inner_token now ≡ Done (token_at texts t) new (loads more)) where
  same : (j : ℕ) → tokens_at texts (take j seen) ≡ tokens_at names (take j seen)
  same j = tokens_kept names texts g (take j seen) (All-take (TokenWithin (length names)) j seen within)

  same_seen : tokens_at texts seen ≡ tokens_at names seen
  same_seen = tokens_kept names texts g seen within

  pushed : tokens_at names seen ++ token_at texts t ∷ [] ≡ tokens_at texts (seen ++ t ∷ [])
  pushed = ap (λ l. l ++ token_at texts t ∷ []) (sym same_seen) ∙ sym (map-append (token_at texts) seen (t ∷ []))

  fed_more : FedTokens s texts (seen ++ t ∷ []) new
  fed_more = record {
    sizes = k.sizes ++ more;
    tokens =
        ap (λ k. next_tokens k s) (push_length seen t) ∙ tokens_more_one s now new (tokens_at names seen) (token_at texts t) (length seen) k.sizes more k.tokens takes
        ∙ ap (λ l. Done l new (loads (k.sizes ++ more))) pushed;
    fronts = λ j lt. elim (cases_lt j (length seen)) [
      | inl less ↦
          let before = k.fronts j less in
          (before.0, before.1, before.2 ∙ ap (λ l. Done l before.0 (loads before.1)) (sym (same j)) ∙ ap (λ l. Done (tokens_at texts l) before.0 (loads before.1)) (sym (take-append-le j seen (t ∷ []) (omega arith))))
      | inr le ↦
          let e : j ≡ length seen = omega (arith, lt, le, push_length seen t) in (
            now,
            k.sizes,
            ap (λ k. next_tokens k s) e ∙ k.tokens ∙ ap (λ l. Done l now (loads k.sizes)) (sym same_seen) ∙ ap (λ l. Done (tokens_at texts l) now (loads k.sizes)) (sym (ap (λ k. take k (seen ++ t ∷ [])) e ∙ take-append_seam seen (t ∷ []))),
          )
    ];
  }

module _ {V : Type 0} (first judge judge' : Judge V) (old now new : Held) (f g h : Outside) (t : TokenCode) (verdict : Verdict V) (i : Feeding first old f judge now g) (d : Gets inner_token (Ok (token_at new.names t)) now new g h)
    (low : Shrinks 1 g.shelf now h.shelf new) (given : TokenWithin (length new.names) t) (fed : (texts : Table) → Extends new.names texts → IsFed judge t verdict judge' texts) where
  abbrev list : List TokenCode
  list = i.seen ++ t ∷ []

  within_more : TokensWithin (length new.names) list
  within_more = All-push (TokenWithin (length new.names)) i.seen t (tokens_more (length now.names) (length new.names) d.keeps.grows.longer i.seen i.within) given

  behind : Runs {A = Unit {0}} (Ok tt) old new f h
  behind = runs_then tt (Ok tt) old now new f g h i.runs (runs_as (token_at new.names t) tt now new g h (gets_runs inner_token (Ok (token_at new.names t)) now new g h d))

  less : Shrinks (length list) f.shelf old h.shelf new
  less = shrinks_then (length i.seen) 1 (length list) f.shelf g.shelf h.shelf old now new i.lower low (omega (arith, push_length i.seen t))

  fed_all : IsTrue f.shelf.tells → FedTokens (state_of f.shelf old) new.names list (state_of h.shelf new)
  fed_all told =
      let q = d.reads (told_on f.shelf g.shelf old now i.runs.holds told) in
      fed_more (state_of f.shelf old) (state_of g.shelf now) (state_of h.shelf new) now.names new.names d.keeps.grows i.seen t i.within (i.fed told) q.0 q.1

  pays_all : (told : IsTrue f.shelf.tells) → AreLittle old.input.sources → Spent {A = Unit {0}} (Ok tt) f.shelf h.shelf old.input.sources new.input.sources (loads (fed_all told).sizes)
  unfolding fed_all fed_more
  pays_all told little =
      let on = told_on f.shelf g.shelf old now i.runs.holds told in
      let q = d.reads on in
      spent_then tt (Ok tt) f.shelf g.shelf h.shelf old.input.sources now.input.sources new.input.sources (loads (i.fed told).sizes) (loads q.0) (i.pays told little)
      (λ small. spent_ok (token_at new.names t) tt g.shelf h.shelf now.input.sources new.input.sources (loads q.0)
      (subst (λ y. Spent (Ok (token_at new.names t)) g.shelf h.shelf now.input.sources new.input.sources (added y)) q.1 (d.spends on small)))

  whole : (texts : Table) → Extends new.names texts → first texts list ≡ verdict
  whole texts g = sym (i.on texts (extends_trans now.names new.names texts d.keeps.grows g) (t ∷ [])) ∙ (fed texts g).is

  short_before : (texts : Table) → Extends new.names texts → (j : ℕ) → j ≤ length i.seen → first texts (take j list) ≡ TooShort
  short_before texts g j le = ap (first texts) (take-append-le j i.seen (t ∷ []) le) ∙ i.short texts (extends_trans now.names new.names texts d.keeps.grows g) j le

  -- the token decides
  settled_now : IsTrue f.shelf.tells → Settled first (state_of f.shelf old) new.names (state_of h.shelf new) verdict
  settled_now told =
      let k = fed_all told in
      record {
        list = list;
        seen = record {
          numbered = d.keeps.sound.numbered;
          within = within_more;
          sizes = k.sizes;
          tokens = k.tokens;
          before = λ j lt.
              let front = k.fronts j lt in
              record { now = front.0; sizes = front.1; tokens = front.2; is = short_before new.names (extends_refl new.names) j (omega (arith, lt, push_length i.seen t)) };
        };
        is = whole new.names (extends_refl new.names);
      }

  pub feeding_settled : (v : V) → verdict ≡ Yields v → FeedsTold first (state_of f.shelf old) f.shelf (Ok v) new.names (state_of h.shelf new)
  feeding_settled v e told = subst (Settled first (state_of f.shelf old) new.names (state_of h.shelf new)) e (settled_now told)

  -- what it read, which a verdict is made of
  pub feeding_pays : (r : Result V Stop) (last : Held) → SameFiles new last → FedSpends first (state_of f.shelf old) r f.shelf h.shelf old last
  unfolding settled_now fed_all
  feeding_pays r last files told little =
      let sizes = (fed_all told).sizes in
      record {
        gains = loads sizes;
        fed = Deciding new.names (state_of h.shelf new) verdict (settled_now told) refl;
        spent =
            subst (Spent r f.shelf h.shelf old.input.sources last.input.sources) (plus_nothing (loads sizes))
            (spent_then tt r f.shelf h.shelf h.shelf old.input.sources new.input.sources last.input.sources (loads sizes) nothing (pays_all told little)
            (λ small. spent_same r h.shelf new.input.sources last.input.sources nothing files.readers small));
      }

  pub feeding_fed : (v : V) → verdict ≡ Yields v → FedBy first v f.shelf old h.shelf new
  feeding_fed v e = record { list = list; within = within_more; is = whole new.names (extends_refl new.names) ∙ e; shrinks = less }

  pub feeding_runs : (v : V) → Runs (Ok v) old new f h
  feeding_runs v = runs_as tt v old new f h behind

  -- it doesn't
  pub feeding_more : verdict ≡ TooShort → Feeding first old f judge' new h
  feeding_more short = record {
    running = d.stops.kept;
    sound = d.keeps.sound;
    owns = d.holds.owns;
    kept = kept_then old now new i.kept d.keeps;
    runs = behind;
    seen = list;
    within = within_more;
    lower = less;
    fed = fed_all;
    pays = pays_all;
    short = λ texts g j le. elim (cases_lt (length i.seen) j) [
      | inl more ↦ ap (first texts) (take_all j list (omega (arith, more, push_length i.seen t))) ∙ whole texts g ∙ short
      | inr less ↦ short_before texts g j less
    ];
    on = λ texts g more.
        (fed texts g).on short more ∙ i.on texts (extends_trans now.names new.names texts d.keeps.grows g) (t ∷ more) ∙ ap (first texts) (sym (append_assoc i.seen (t ∷ []) more));
  }

  -- a fault is made of a refusal
  pub feeding_refuses : (code : ℕ) (e : Stop) (texts : Table) (last : State) → verdict ≡ Refuses code → IsFaultAt code [] (place_of new) e → FeedsTold first (state_of f.shelf old) f.shelf (Err e) texts last
  feeding_refuses code (stop.Tex x) texts last v bad told =
      Refused new.names (state_of h.shelf new) code (subst (Settled first (state_of f.shelf old) new.names (state_of h.shelf new)) v (settled_now told)) bad
  feeding_refuses code (stop.Limit n) texts last v bad told = absurd bad
  feeding_refuses code stop.ReadFailed texts last v bad told = absurd bad
  feeding_refuses code stop.TellFailed texts last v bad told = absurd bad
  feeding_refuses code stop.NoMemory texts last v bad told = tt

  pub refuses_runs : (code : ℕ) (e : Stop) (last : Held) → IsFaultAt code [] (place_of new) e → last ≡ record new { stop = Some e } → Runs {A = V} (Err e) old last f h
  refuses_runs code e last bad is = runs_then tt (Err e) old new last f h h behind (runs_fault code [] e new last h bad is d.holds.owns)

-- memory is refused where a token is fed
pub out_runs : {V A : Type 0} (first judge : Judge V) (old now mid new : Held) (f g h : Outside) (t : Token) (e : Stop) → Feeding first old f judge now g → Gets inner_token (Ok t) now mid g h → e ≡ stop.NoMemory → new ≡ record mid { stop = Some stop.NoMemory }
    → Runs {A = A} (Err e) old new f h
out_runs first judge old now mid new f g h t e i d short is =
    runs_then tt (Err e) old now new f g h i.runs (runs_then t (Err e) now mid new g h h (gets_runs inner_token (Ok t) now mid g h d) (runs_out e mid new h short is d.holds.owns))

-- the tokens until now, which don't decide
module _ {V : Type 0} (first judge : Judge V) (old now : Held) (f g : Outside) (i : Feeding first old f judge now g) where
  seen_now : IsTrue f.shelf.tells → Seen first (state_of f.shelf old) now.names i.seen (state_of g.shelf now)
  seen_now told =
      let k = i.fed told in
      record {
        numbered = i.kept.sound.numbered;
        within = i.within;
        sizes = k.sizes;
        tokens = k.tokens;
        before = λ j lt. let front = k.fronts j lt in record { now = front.0; sizes = front.1; tokens = front.2; is = i.short now.names (extends_refl now.names) j (omega (arith, lt)) };
      }

  short_now : first now.names i.seen ≡ TooShort
  short_now = ap (first now.names) (sym (take_all (length i.seen) i.seen (omega arith))) ∙ i.short now.names (extends_refl now.names) (length i.seen) (omega arith)

  -- no next token can be taken
  feeding_cut : (end : End) → IsTrue f.shelf.tells → (last : List ℕ) × (inner_token (state_of g.shelf now) ≡ Ended end (loads last)) → CutShort first (state_of f.shelf old) end
  feeding_cut end told h = record { texts = now.names; list = i.seen; now = state_of g.shelf now; seen = seen_now told; is = short_now; last = h.0; cut = h.1 }

  feeds_cut : (e : Stop) (mid : State) (texts : Table) (last : State) → IsTrue f.shelf.tells → Quiet (inner_token (state_of g.shelf now)) (Err e) mid → Feeds first (state_of f.shelf old) (Err e) texts last
  feeds_cut (stop.Tex x) mid texts last told h = Cut (feeding_cut (Tex x) told h)
  feeds_cut (stop.Limit n) mid texts last told h = feeding_cut (Limit n) told h
  feeds_cut stop.ReadFailed mid texts last told h = tt
  feeds_cut stop.TellFailed mid texts last told h = absurd h
  feeds_cut stop.NoMemory mid texts last told h = tt

  -- what was read with one more token
  behind_pays : {A : Type 0} (r : Result A Stop) (e : Result V Stop) (new : Held) (h : Outside) → ((a b : List Source) (gains : Gains) → Spent r g.shelf h.shelf a b gains → Spent e g.shelf h.shelf a b gains)
      → Spends (inner_token (state_of g.shelf now)) r g.shelf h.shelf now new → FedSpends first (state_of f.shelf old) e f.shelf h.shelf old new
  unfolding seen_now
  behind_pays r e new h lift spends told little =
      let sizes = (i.fed told).sizes in
      let one = added (inner_token (state_of g.shelf now)) in
      record {
        gains = loads sizes ⊕ one;
        fed = Behind now.names i.seen (state_of g.shelf now) (seen_now told) short_now refl;
        spent =
            spent_then tt e f.shelf g.shelf h.shelf old.input.sources now.input.sources new.input.sources (loads sizes) one (i.pays told little)
            (λ small. lift now.input.sources new.input.sources one (spends (told_on f.shelf g.shelf old now i.runs.holds told) small));
      }

  -- memory is refused where a token is fed
  pub out_pays : (mid new : Held) (h : Outside) (t : Token) (e : Stop) → Gets inner_token (Ok t) now mid g h → new ≡ record mid { stop = Some stop.NoMemory } → FedSpends first (state_of f.shelf old) (Err e) f.shelf h.shelf old new
  out_pays mid new h t e d is =
      behind_pays {A = Token} (Err e) (Err e) new h (λ a b gains p. spent_err Token V e g.shelf h.shelf a b gains p)
      (λ told small. subst (λ (k : Held). Spent {A = Token} (Err e) g.shelf h.shelf now.input.sources k.input.sources (added (inner_token (state_of g.shelf now)))) (sym is)
      (spent_fails t e g.shelf h.shelf now.input.sources mid.input.sources (added (inner_token (state_of g.shelf now))) (d.spends told small)))

module _ {V : Type 0} (first judge : Judge V) (old now new : Held) (f g h : Outside) (e : Stop) (i : Feeding first old f judge now g) (d : Gets inner_token (Err e) now new g h) where
  pub feeding_stops : (texts : Table) (last : State) → FeedsTold first (state_of f.shelf old) f.shelf (Err e) texts last
  feeding_stops texts last told = feeds_cut first judge old now f g i e (state_of h.shelf new) texts last told (d.reads (told_on f.shelf g.shelf old now i.runs.holds told))

  pub stops_pays : FedSpends first (state_of f.shelf old) (Err e) f.shelf h.shelf old new
  stops_pays = behind_pays first judge old now f g i {A = Token} (Err e) (Err e) new h (λ a b gains p. spent_err Token V e g.shelf h.shelf a b gains p) d.spends

  pub stops_runs : Runs {A = V} (Err e) old new f h
  stops_runs = runs_then tt (Err e) old now new f g h i.runs (runs_stop e now new g h (gets_runs inner_token (Err e) now new g h d))

-- what a verdict of the code stands for
abbrev pub verdict_at : {A B : Type 0} → (A → B) → Verdict A → Verdict B
verdict_at f TooShort = TooShort
verdict_at f (Yields v) = Yields (f v)
verdict_at f (Refuses code) = Refuses code

-- the code decides what the definition does, by the texts of names
pub record Agrees {A V : Type 0} (decide : List Token → Verdict A) (value : Table → V → A) (judge : Judge V) : Type 0 where
  pub at : (texts : Table) (list : List TokenCode) → Numbered texts → TokensWithin (length texts) list → decide (tokens_at texts list) ≡ verdict_at (value texts) (judge texts list)

module _ {A V : Type 0} (decide : List Token → Verdict A) (value : Table → V → A) (judge : Judge V) (g : Agrees decide value judge) (old : State) where
  decides_at : (v : Verdict V) (f : V → A) → decides (verdict_at f v) ≡ decides v
  decides_at TooShort f = refl
  decides_at (Yields v) f = refl
  decides_at (Refuses code) f = refl

  not_enough : (texts : Table) (j : ℕ) (list : List TokenCode) → Numbered texts → TokensWithin (length texts) list → Short judge old texts j list → is_enough decide (next_tokens j old) ≡ false
  not_enough texts j list numbered within s =
      ap (is_enough decide) s.tokens ∙ ap decides (g.at texts list numbered within) ∙ ap (λ v. decides (verdict_at (value texts) v)) s.is

  before : (texts : Table) (list : List TokenCode) (now : State) → Seen judge old texts list now → (j : ℕ) → j < length list → is_enough decide (next_tokens j old) ≡ false
  before texts list now s j lt = not_enough texts j (take j list) s.numbered (All-take (TokenWithin (length texts)) j list s.within) (s.before j lt)

  abbrev decided_at : Table → Verdict V → State → Answer A
  decided_at texts v now = decided (verdict_at (value texts) v) now

  settled : (texts : Table) (now : State) (v : Verdict V) (s : Settled judge old texts now v) → decides v ≡ true → by_least decide old ≡ after (loads s.seen.sizes) (decided_at texts v now)
  settled texts now v s d =
      let n : length (tokens_at texts s.list) ≡ length s.list = length-map s.list (token_at texts) in
      by_least_at decide old now (tokens_at texts s.list) (loads s.seen.sizes) (verdict_at (value texts) v)
      (ap (λ k. next_tokens k old) n ∙ s.seen.tokens)
      (g.at texts s.list s.seen.numbered s.seen.within ∙ ap (verdict_at (value texts)) s.is)
      (decides_at v (value texts) ∙ d)
      (λ j lt. before texts s.list now s.seen j (omega (arith, lt, n)))

  cut : (end : End) → CutShort judge old end → (sizes : List ℕ) × (by_least decide old ≡ Ended end (loads sizes))
  cut end c =
      let n = length c.list in
      let took : Took n old (tokens_at c.texts c.list) c.now = leads_at (λ l u. Took n old l u) (next_tokens n old) (tokens_at c.texts c.list) c.now (loads c.seen.sizes) c.seen.tokens (next_took n old) in
      let fits = takes_room n old c.now took.takes in (
        c.seen.sizes ++ c.last,
        by_least_ends decide old (suc n) end (loads (c.seen.sizes ++ c.last)) (omega arith) (tokens_end old c.now (tokens_at c.texts c.list) end n c.seen.sizes c.last c.seen.tokens c.cut)
            (λ j lt. elim (cases_lt j n) [
              | inl less ↦ before c.texts c.list c.now c.seen j less
              | inr le ↦
                  let e : j ≡ n = omega (arith, lt, le) in
                  not_enough c.texts j c.list c.seen.numbered c.seen.within (record { now = c.now; sizes = c.seen.sizes; tokens = ap (λ k. next_tokens k old) e ∙ c.seen.tokens; is = c.is })
            ]),
      )

  -- what feeding answers is what the least number of next tokens decides
  pub feeds_quiet : (r : Result V Stop) (texts : Table) (now : State) → Feeds judge old r texts now → Quiet (by_least decide old) (ok_at (value texts) r) now
  feeds_quiet (Ok v) texts now h = (h.seen.sizes ++ [], settled texts now (Yields v) h refl)
  feeds_quiet (Err (stop.Tex x)) texts now (Refused known at code s e) = (s.seen.sizes ++ [], settled known at (Refuses code) s refl ∙ ap (λ y. Ended (Tex y) (loads (s.seen.sizes ++ []))) (sym e))
  feeds_quiet (Err (stop.Tex x)) texts now (Cut c) = cut (Tex x) c
  feeds_quiet (Err (stop.Limit n)) texts now c = cut (Limit n) c
  feeds_quiet (Err stop.ReadFailed) texts now h = tt
  feeds_quiet (Err stop.TellFailed) texts now h = absurd h
  feeds_quiet (Err stop.NoMemory) texts now h = tt

  -- no fewer tokens are read than are too few
  least_ge : (n k : ℕ) (p : ℕ → Bool) → ((j : ℕ) → j < k → p j ≡ false) → k ≤ n → k ≤ least n p
  least_ge n zero p h le = omega arith
  least_ge zero (suc k) p h le = absurd (omega (arith, le))
  least_ge (suc n) (suc k) p h le =
      let more = least_ge n k (λ j. p (suc j)) (λ j lt. h (suc j) (omega (arith, lt))) (omega (arith, le)) in
      subst (λ x. suc k ≤ x) (sym (choose_no (p zero) zero (suc (least n (λ j. p (suc j)))) (h zero (omega arith)))) (omega (arith, more))

  tokens_grow : (P : Gains → ℕ) → ((k : ℕ) → P (added (next_tokens k old)) ≤ P (added (next_tokens (suc k) old))) → (k n : ℕ) → k ≤ n → P (added (next_tokens k old)) ≤ P (added (next_tokens n old))
  tokens_grow P up k zero le = let e : k ≡ zero = omega (arith, le) in subst (λ m. P (added (next_tokens m old)) ≤ P (added (next_tokens zero old))) (sym e) (omega arith)
  tokens_grow P up k (suc n) le = elim (eq-or-lt_of_le le) [
    | inl e ↦ subst (λ m. P (added (next_tokens m old)) ≤ P (added (next_tokens (suc n) old))) (sym e) (omega arith)
    | inr lt ↦ omega (arith, tokens_grow P up k n (omega (arith, lt)), up n)
  ]

  abbrev opened_in : Gains → ℕ
  opened_in gains = length gains.opened

  -- of these gains the whole has as many
  record Among (gains : Gains) : Type 0 where
    bytes : bytes_in gains ≤ bytes_in (added (by_least decide old))
    opened : opened_in gains ≤ opened_in (added (by_least decide old))

  among_first : (k : ℕ) → k ≤ room old + 1 → ((j : ℕ) → j < k → is_enough decide (next_tokens j old) ≡ false) → Among (added (next_tokens k old))
  among_first k le short =
      let n = least (room old + 1) (λ j. is_enough decide (next_tokens j old)) in
      let ge = least_ge (room old + 1) k (λ j. is_enough decide (next_tokens j old)) short le in
      record {
        bytes = omega (arith, tokens_grow bytes_in (λ k. bytes_chain (next_tokens k old) one_more) k n ge, bytes_chain (next_tokens n old) (λ list. decided (decide list)));
        opened = omega (arith, tokens_grow opened_in (λ k. opened_chain (next_tokens k old) one_more) k n ge, opened_chain (next_tokens n old) (λ list. decided (decide list)));
      }

  seen_room : (texts : Table) (list : List TokenCode) (now : State) → Seen judge old texts list now → length list ≤ room old
  seen_room texts list now s = takes_room (length list) old now (leads_at (λ l u. Took (length list) old l u) (next_tokens (length list) old) (tokens_at texts list) now (loads s.sizes) s.tokens (next_took (length list) old)).takes

  among_seen : (texts : Table) (list : List TokenCode) (now : State) (s : Seen judge old texts list now) → Among (loads s.sizes)
  among_seen texts list now s =
      let le = seen_room texts list now s in
      subst Among (ap (λ a. added a) s.tokens) (among_first (length list) (omega (arith, le)) (λ j lt. before texts list now s j lt))

  among_behind : (texts : Table) (list : List TokenCode) (now : State) (s : Seen judge old texts list now) → judge texts list ≡ TooShort → Among (loads s.sizes ⊕ added (inner_token now))
  among_behind texts list now s short =
      let le = seen_room texts list now s in
      let all = among_first (suc (length list)) (omega (arith, le)) (λ j lt. elim (cases_lt j (length list)) [
        | inl less ↦ before texts list now s j less
        | inr more ↦
            let e : j ≡ length list = omega (arith, lt, more) in
            not_enough texts j list s.numbered s.within (record { now = now; sizes = s.sizes; tokens = ap (λ k. next_tokens k old) e ∙ s.tokens; is = short })
      ]) in
      let is = ap (λ a. added (chain a one_more)) s.tokens ∙ added_after (loads s.sizes) (one_more (tokens_at texts list) now) in
      let push : Token → Reading (List Token) = λ x. give (tokens_at texts list ++ x ∷ []) in
      record {
        bytes = omega (arith, all.bytes, ap bytes_in is, bytes_plus (loads s.sizes) (added (one_more (tokens_at texts list) now)), bytes_plus (loads s.sizes) (added (inner_token now)), bytes_chain (inner_token now) push);
        opened = omega (arith, all.opened, ap opened_in is, opened_plus (loads s.sizes) (added (one_more (tokens_at texts list) now)), opened_plus (loads s.sizes) (added (inner_token now)), opened_chain (inner_token now) push);
      }

  fed_among : (gains : Gains) → FedGains judge old gains → Among gains
  fed_among gains (Deciding texts now verdict s e) = subst Among (sym e) (among_seen texts s.list now s.seen)
  fed_among gains (Behind texts list now s short e) = subst Among (sym e) (among_behind texts list now s short)

  -- what was read is what the whole reads
  fed_spent : {B : Type 0} (at : V → B) (r : Result V Stop) (f g : Shelf) (a b : List Source) → FedSpent judge old r f g a b → Spent (ok_at at r) f g a b (added (by_least decide old))
  fed_spent at r f g a b p =
      let m = fed_among p.gains p.fed in
      spent_more (ok_at at r) f g a b p.gains (added (by_least decide old)) m.bytes m.opened (spent_at at r f g a b p.gains p.spent)

pub feeds_spends : {A V : Type 0} (decide : List Token → Verdict A) (value : Table → V → A) (judge : Judge V) → Agrees decide value judge → (texts : Table) (r : Result V Stop) (f g : Shelf) (old new : Held) → FedSpends judge (state_of f old) r f g old new
    → Spends (by_least decide (state_of f old)) (ok_at (value texts) r) f g old new
feeds_spends decide value judge agrees texts r f g old new p told little = fed_spent decide value judge agrees (state_of f old) (value texts) r f g old.input.sources new.input.sources (p told little)
