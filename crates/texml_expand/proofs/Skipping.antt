-- An engine that skips text.
use Rattle.std.proofs.Common.{◌≡◌, ℕ, IsTrue, List, [], ◌∷◌, ◌++◌, None, Some, Result, Ok, Err, refl, sym, ap, ◌∙◌, arith}
use Rattle.texml_token.specs.Numbers.{token_at}
use Rattle.texml_token.specs.declared.tokens.Token.{Token as TokenCode}
use Rattle.texml_token.specs.declared.fault_code.TheConstants.{DEPTH}
use Rattle.texml_scope.specs.Numbers.{meaning_at}
use Rattle.texml_cond.specs.declared.limits.Word.{Word}
use Rattle.texml_cond.specs.declared.skipping.SkipStep.TheVariants.{Reached, TooDeep}
use Rattle.texml_cond.specs.Skipping.{MeaningCode, part_of, skip, Fed}
use Rattle.texml_cond.proofs.Texts.{part_says}
use Rattle.texml_expand.specs.declared.stop.Stop.{Stop}
use Rattle.texml_expand.specs.declared.stop.Stop.TheVariants as stop
use Rattle.texml_expand.specs.State.{loads}
use Rattle.texml_expand.specs.Take.{means}
use Rattle.texml_expand.specs.Least.{inner_token, by_least}
use Rattle.texml_expand.specs.Contract.{Outside, IsFaultAt}
use Rattle.texml_expand.specs.Held.{Held, place_of, world_in, state_of, Sound, Owns, Shrinks}
use Rattle.texml_expand.specs.Doing.{Gets, Runs}
use Rattle.texml_expand.specs.Conditionals.{skipped}
use Rattle.texml_expand.proofs.Getting.{Told, told_of, told_as, told_then, told_stop, told_local, told_out, gets_told}
use Rattle.texml_expand.proofs.Taking.{silent_fault}
use Rattle.texml_expand.proofs.Running.{told_on, shrinks_none, shrinks_then, runs_then, runs_now, runs_stop, runs_fault, runs_out, gets_runs, files_same, files_stopped}
use Rattle.texml_expand.proofs.Skips.{Skips, skips_none, skips_next, skips_more, skips_reach, skips_deep}
use Rattle.texml_expand.proofs.Stepping.{behind_one}

-- what is decided from now on is what the whole decides
pub record Passes (old : Held) (f : Outside) (seen : List MeaningCode) (now : Held) (g : Outside) : Type 0 where
  pub skips : Skips (state_of f.shelf old) seen (state_of g.shelf now)
  pub on : (r : Result Word Stop) (new : Held) (h : Outside) → Told (by_least skips.decide (state_of g.shelf now)) r now new g h → Told (skipped (state_of f.shelf old)) r old new f h

-- tokens of these meanings were skipped, and nothing was decided
pub record Skipping (old : Held) (f : Outside) (within : ℕ) (now : Held) (g : Outside) : Type 0 where
  pub running : now.stop ≡ None
  pub sound : Sound now
  pub owns : Owns g.shelf now
  pub runs : Runs {A = Unit {0}} (Ok tt) old now f g
  pub lower : Shrinks 0 f.shelf old g.shelf now
  pub begun : now.begun ≡ old.begun
  pub seen : List MeaningCode
  pub fed : Fed seen within
  pub skips : IsTrue f.shelf.tells → Passes old f seen now g

pub skipping_none : (h : Held) (f : Outside) (within : ℕ) → h.stop ≡ None → Sound h → Owns f.shelf h → Fed [] within → Skipping h f within h f
skipping_none h f within running sound owns fed = record {
  running = running;
  sound = sound;
  owns = owns;
  runs = runs_now tt h f sound running owns;
  lower = shrinks_none f.shelf h;
  begun = refl;
  seen = [];
  fed = fed;
  skips = λ told. record { skips = skips_none (state_of f.shelf h); on = λ r new k t. t };
}

pub skipping_stops : (old now new : Held) (f g h : Outside) (within : ℕ) (e : Stop) → Skipping old f within now g → Gets inner_token (Err e) now new g h → Gets skipped (Err e) old new f h
skipping_stops old now new f g h within e i d =
    gets_told skipped (Err e) old new f h
    (λ told.
    let p = i.skips told in
    p.on (Err e) new h
    (told_as _ _ (Err e) now new g h (skips_next (state_of f.shelf old) (state_of g.shelf now) i.seen p.skips i.fed.undecided)
    (told_stop (inner_token (state_of g.shelf now)) (λ t. by_least (behind_one p.skips.decide t)) e now new g h (told_of inner_token (Err e) now new g h d (told_on f.shelf g.shelf old now i.runs.holds told)))))
    (runs_then tt (Err e) old now new f g h i.runs (runs_stop e now new g h (gets_runs inner_token (Err e) now new g h d)))

module _ (old now new : Held) (f g h : Outside) (within : ℕ) (t : TokenCode) (i : Skipping old f within now g) (d : Gets inner_token (Ok (token_at new.names t)) now new g h) (low : Shrinks 1 g.shelf now h.shelf new) where
  behind : {A : Type 0} (r : Result A Stop) (after : Held) (k : Outside) → Runs r new after h k → Runs r old after f k
  behind r after k e =
      runs_then tt r old now after f g k i.runs (runs_then (token_at new.names t) r now new after g h k (gets_runs inner_token (Ok (token_at new.names t)) now new g h d) e)

  abbrev told_now : IsTrue f.shelf.tells → IsTrue g.shelf.tells
  told_now told = told_on f.shelf g.shelf old now i.runs.holds told

  -- a token, and what is decided behind it
  token_told : (told : IsTrue f.shelf.tells) (r : Result Word Stop) (after : Held) (k : Outside) → Told (by_least (behind_one (i.skips told).skips.decide (token_at new.names t)) (state_of h.shelf new)) r new after h k → Told (skipped (state_of f.shelf old)) r old after f k
  token_told told r after k y =
      let p = i.skips told in
      p.on r after k
      (told_as _ _ r now after g k (skips_next (state_of f.shelf old) (state_of g.shelf now) i.seen p.skips i.fed.undecided)
      (told_then (inner_token (state_of g.shelf now)) (λ t. by_least (behind_one p.skips.decide t)) (token_at new.names t) r now new after g h k (told_of inner_token (Ok (token_at new.names t)) now new g h d (told_now told)) y))

  -- no memory, or too many conditionals have begun
  pub skipping_out : (e : Stop) (after : Held) → e ≡ stop.NoMemory → after ≡ record new { stop = Some stop.NoMemory } → Gets skipped (Err e) old after f h
  skipping_out e after lack is =
      gets_told skipped (Err e) old after f h (λ told. token_told told (Err e) after h (told_out _ e new after h lack (files_stopped new after stop.NoMemory is)))
      (behind (Err e) after h (runs_out e new after h lack is d.holds.owns))

  module _ (m : MeaningCode) (so : meaning_at new.names m ≡ means (world_in new) (token_at new.names t)) where
    abbrev part : part_of (means (world_in new) (token_at new.names t)) ≡ part_of m
    part = ap part_of (sym so) ∙ part_says new.names m

    pub skipping_more : (within' : ℕ) → Fed (i.seen ++ m ∷ []) within' → new.begun ≡ now.begun → Skipping old f within' new h
    skipping_more within' fed same = record {
      running = d.stops.kept;
      sound = d.keeps.sound;
      owns = d.holds.owns;
      runs = behind (Ok tt) new h (runs_now tt new h d.keeps.sound d.stops.kept d.holds.owns);
      lower = shrinks_then 0 1 0 f.shelf g.shelf h.shelf old now new i.lower low (omega arith);
      begun = same ∙ i.begun;
      seen = i.seen ++ m ∷ [];
      fed = fed;
      skips = λ told.
          let q = d.reads (told_now told) in record {
            skips = skips_more (state_of f.shelf old) (state_of g.shelf now) i.seen (i.skips told).skips (token_at new.names t) (state_of h.shelf new) (loads q.0) q.1 m part;
            on = token_told told;
          };
    }

    pub skipping_reaches : (word : Word) → skip (i.seen ++ m ∷ []) ≡ Reached word → Gets skipped (Ok word) old new f h
    skipping_reaches word is =
        gets_told skipped (Ok word) old new f h
        (λ told.
        let q = d.reads (told_now told) in
        token_told told (Ok word) new h
        (told_local _ (Ok word) new new h (skips_reach (state_of f.shelf old) (state_of g.shelf now) i.seen (i.skips told).skips (token_at new.names t) (state_of h.shelf new) (loads q.0) q.1 m part word is) (files_same new new refl)))
        (behind (Ok word) new h (runs_now word new h d.keeps.sound d.stops.kept d.holds.owns))

    pub skipping_deep : (e : Stop) (after : Held) → skip (i.seen ++ m ∷ []) ≡ TooDeep → IsFaultAt DEPTH [] (place_of new) e → after ≡ record new { stop = Some e } → Gets skipped (Err e) old after f h
    skipping_deep e after is fault kept =
        gets_told skipped (Err e) old after f h
        (λ told.
        let q = d.reads (told_now told) in
        token_told told (Err e) after h
        (told_local _ (Err e) new after h
        (silent_fault _ DEPTH [] (place_of new) e (state_of h.shelf after) (skips_deep (state_of f.shelf old) (state_of g.shelf now) i.seen (i.skips told).skips (token_at new.names t) (state_of h.shelf new) (loads q.0) q.1 m part is) fault)
        (files_stopped new after e kept)))
        (behind (Err e) after h (runs_fault DEPTH [] e new after h fault kept d.holds.owns))
