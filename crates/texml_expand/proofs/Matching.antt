-- Arguments that are matched, a token at a time, as the readings by the least number of next tokens see them.
use Rattle.std.proofs.Common.{◌≡◌, ◌==◌, ◌&&◌, Bool, true, false, List, [], ◌∷◌, ◌++◌, length, append_assoc, append-nil, map, None, Some, Result, Ok, Err, refl, sym, ap, ◌∙◌, subst, arith}
use Rattle.texml_token.specs.Token.{Token}
use Rattle.texml_token.specs.Numbers.{Table, token_at, tokens_at}
use Rattle.texml_token.specs.declared.tokens.Token.{Token as TokenCode}
use Rattle.texml_match.specs.Reading.{Wants, Gives, Fails, Reader}
use Rattle.texml_match.specs.Shape.{Shape, shape_at, is_empty}
use Rattle.texml_match.specs.Arguments.{reading}
use Rattle.texml_match.specs.Left.{Matched, left, Reads, Says}
use Rattle.texml_match.specs.declared.arg_match.MatchFault.{MatchFault}
use Rattle.texml_match.specs.declared.arg_match.Fed.{Fed}
use Rattle.texml_match.specs.declared.arg_match.Fed.TheVariants as fed
use Rattle.texml_match.proofs.Growing.{left_kept, reads_kept}
use Rattle.texml_expand.specs.declared.stop.Stop.{Stop}
use Rattle.texml_expand.specs.declared.stop.Stop.TheVariants as stop
use Rattle.texml_expand.specs.declared.feeding.Verdict.{Verdict}
use Rattle.texml_expand.specs.declared.feeding.Verdict.TheVariants.{Yields, Refuses}
use Rattle.texml_expand.specs.State.{Reading, nothing, after, chain, ◌>>=◌, give, fail}
use Rattle.texml_expand.specs.Held.{Held, place_of, state_of, Sound, Kept, Owns, Shrinks}
use Rattle.texml_expand.specs.Contract.{Outside, IsFaultAt}
use Rattle.texml_expand.specs.Doing.{Gets}
use Rattle.texml_expand.specs.Matched.{MatchedBy}
use Rattle.texml_expand.specs.Least.{inner_token, decides, decided, by_least}
use Rattle.texml_expand.specs.Arguments.{fault_number, decided_by, read_by}
use Rattle.texml_expand.proofs.Fronts.{kept_then, kept_itself}
use Rattle.texml_expand.proofs.Running.{shrinks_none, shrinks_then}
use Rattle.texml_expand.proofs.Getting.{gets_as, gets_then, gets_stop, gets_now, gets_fault, gets_out}
use Rattle.texml_expand.proofs.Stepping.{behind_one, by_least_is, by_least_now}
use Rattle.texml_expand.proofs.Fed.{push_length}

-- a shape that asks for something wants a token
wants_by : (texts : Table) (prefix : List TokenCode) (delimiters : List (List TokenCode)) (long : Bool) → (length prefix == 0 && length delimiters == 0) ≡ false
    → reading (shape_at texts (record { prefix = prefix; delimiters = delimiters; long = long })) [] ≡ Wants
wants_by texts [] [] long e = let no : true ≡ false = e in cc
wants_by texts [] ([] ∷ ds) long e = refl
wants_by texts [] ((x ∷ xs) ∷ ds) long e = refl
wants_by texts (p ∷ ps) ds long e = refl

module _ (shape : Shape TokenCode) (old : Held) (f : Outside) where
  abbrev pub reader : Reader (List (List Token))
  reader = reading (shape_at old.names shape)

  -- what more tokens decide
  abbrev decides_by : Table → Matched → List Token → Verdict (List (List Token))
  decides_by texts m list = decided_by (left texts shape m list)

  -- an engine that matches: these tokens were taken, and what it reads from now on is what the whole reads
  pub record Matching (m : Matched) (now : Held) (g : Outside) : Type 0 where
    pub running : now.stop ≡ None
    pub sound : Sound now
    pub owns : Owns g.shelf now
    pub kept : Kept old now
    pub seen : List Token
    pub lower : Shrinks (length seen) f.shelf old g.shelf now
    pub reads : Reads now.names shape m
    pub wants : left now.names shape m [] ≡ Wants
    pub on : (more : List Token) → reader (seen ++ more) ≡ left now.names shape m more
    pub goes : (r : Result (List (List Token)) Stop) (new : Held) (h : Outside) → Gets (by_least (decides_by now.names m)) r now new g h → Gets (read_by reader) r old new f h

  pub matching_none : (m : Matched) → old.stop ≡ None → Sound old → Owns f.shelf old → is_empty shape ≡ false → ((more : List Token) → left old.names shape m more ≡ reader more) → Reads old.names shape m → Matching m old f
  matching_none m running sound owns some whole reads = record {
    running = running;
    sound = sound;
    owns = owns;
    kept = kept_itself old sound;
    seen = [];
    lower = shrinks_none f.shelf old;
    reads = reads;
    wants = whole [] ∙ wants_by old.names shape.prefix shape.delimiters shape.long some;
    on = λ more. sym (whole more);
    goes = λ r new h d. gets_as (by_least (decides_by old.names m)) (read_by reader) r old new f h (sym (ap (λ (e : List Token → Verdict (List (List Token))). by_least e (state_of f.shelf old)) (λ i list. decided_by (whole list i)))) d;
  }

  -- the next token, and what more decide behind it
  next_token : (m : Matched) (now : Held) (g : Outside) → Matching m now g → by_least (decides_by now.names m) (state_of g.shelf now) ≡ chain (inner_token (state_of g.shelf now)) (λ t. by_least (behind_one (decides_by now.names m) t))
  next_token m now g i = by_least_is (decides_by now.names m) (state_of g.shelf now) (ap (λ r. decides (decided_by r)) i.wants)

  module _ (m n : Matched) (now new : Held) (g h : Outside) (t : TokenCode) (result : Fed) (i : Matching m now g) (d : Gets inner_token (Ok (token_at new.names t)) now new g h) (low : Shrinks 1 g.shelf now h.shelf new)
      (says : Says new.names result (left new.names shape m) (left new.names shape n) (token_at new.names t)) where
    abbrev x : Token
    x = token_at new.names t

    abbrev list : List Token
    list = i.seen ++ x ∷ []

    less : Shrinks (length list) f.shelf old h.shelf new
    less = shrinks_then (length i.seen) 1 (length list) f.shelf g.shelf h.shelf old now new i.lower low (omega (arith, push_length i.seen x))

    onward : (more : List Token) → reader (list ++ more) ≡ left new.names shape m (x ∷ more)
    onward more = ap reader (append_assoc i.seen (x ∷ []) more) ∙ i.on (x ∷ more) ∙ sym (left_kept now.names new.names d.keeps.grows shape m i.reads.stands (x ∷ more))

    whole : reader list ≡ left new.names shape m (x ∷ [])
    whole = ap reader (sym (append-nil list)) ∙ onward []

    behind_x : (more : List Token) → left now.names shape m (x ∷ more) ≡ left new.names shape m (x ∷ more)
    behind_x more = sym (left_kept now.names new.names d.keeps.grows shape m i.reads.stands (x ∷ more))

    -- a token is taken, and what it does
    by_token : (y : Reading (List (List Token))) (r : Result (List (List Token)) Stop) (last : Held) (k : Outside) → by_least (behind_one (decides_by now.names m) x) (state_of h.shelf new) ≡ y (state_of h.shelf new) → Gets y r new last h k
        → Gets (read_by reader) r old last f k
    by_token y r last k e u =
        i.goes r last k
        (gets_as (inner_token >>= (λ t. by_least (behind_one (decides_by now.names m) t))) (by_least (decides_by now.names m)) r now last g k (next_token m now g i)
        (gets_then inner_token (λ t. by_least (behind_one (decides_by now.names m) t)) x r now new last g h k d (gets_as y (by_least (behind_one (decides_by now.names m) x)) r new last h k e u)))

    settled : (v : Verdict (List (List Token))) → decided_by (left new.names shape m (x ∷ [])) ≡ v → decides v ≡ true → by_least (behind_one (decides_by now.names m) x) (state_of h.shelf new) ≡ after nothing (decided v (state_of h.shelf new))
    settled v e y = by_least_now (behind_one (decides_by now.names m) x) (state_of h.shelf new) v (ap decided_by (behind_x []) ∙ e) y

    module _ (args : List (List TokenCode)) (e : result ≡ fed.All args) where
      -- the token decides on arguments
      gives_all : decided_by (left new.names shape m (x ∷ [])) ≡ Yields (map (tokens_at new.names) args)
      gives_all =
          let h : (more : List Token) → left new.names shape m (x ∷ more) ≡ Gives (map (tokens_at new.names) args) more = subst (λ r. Says new.names r (left new.names shape m) (left new.names shape n) x) e says in
          ap decided_by (h [])

      pub matching_gives : Gets (read_by reader) (Ok (map (tokens_at new.names) args)) old new f h
      matching_gives =
          by_token (give (map (tokens_at new.names) args)) (Ok (map (tokens_at new.names) args)) new h (settled (Yields (map (tokens_at new.names) args)) gives_all refl)
          (gets_now (map (tokens_at new.names) args) new h d.keeps.sound d.stops.kept d.holds.owns)

      pub matched_by : MatchedBy shape args f.shelf old h.shelf new
      matched_by = record { list = list; is = ap decided_by whole ∙ gives_all; shrinks = less }

    -- on a fault
    pub matching_fails : (fault : MatchFault) (e : Stop) (last : Held) → result ≡ fed.Fault fault → IsFaultAt (fault_number fault) [] (place_of new) e → last ≡ record new { stop = Some e } → Gets (read_by reader) (Err e) old last f h
    matching_fails fault e last is bad stopped =
        let k : (more : List Token) → left new.names shape m (x ∷ more) ≡ Fails fault = subst (λ r. Says new.names r (left new.names shape m) (left new.names shape n) x) is says in
        by_token (fail (fault_number fault) []) (Err e) last h (settled (Refuses (fault_number fault)) (ap decided_by (k [])) refl)
        (gets_fault (fail (fault_number fault) []) (fault_number fault) [] e new last h refl bad stopped d.holds.owns)

    pub matching_out : (e : Stop) (last : Held) → e ≡ stop.NoMemory → last ≡ record new { stop = Some stop.NoMemory } → Gets (read_by reader) (Err e) old last f h
    matching_out e last short is =
        by_token (by_least (behind_one (decides_by now.names m) x)) (Err e) last h refl (gets_out (by_least (behind_one (decides_by now.names m) x)) e new last h short is d.holds.owns)

    -- or not yet
    pub matching_more : result ≡ fed.More → Reads new.names shape n → left new.names shape n [] ≡ Wants → Matching n new h
    matching_more e reads wants =
        let k : (more : List Token) → left new.names shape m (x ∷ more) ≡ left new.names shape n more = subst (λ r. Says new.names r (left new.names shape m) (left new.names shape n) x) e says in
        let same : (more : List Token) → left now.names shape m (x ∷ more) ≡ left new.names shape n more = λ more. behind_x more ∙ k more in
        record {
          running = d.stops.kept;
          sound = d.keeps.sound;
          owns = d.holds.owns;
          kept = kept_then old now new i.kept d.keeps;
          seen = list;
          lower = less;
          reads = reads;
          wants = wants;
          on = λ more. onward more ∙ k more;
          goes = λ r z q y. by_token (by_least (decides_by new.names n)) r z q (ap (λ (e : List Token → Verdict (List (List Token))). by_least e (state_of h.shelf new)) (λ j list. decided_by (same list j))) y;
        }

  pub matching_stops : (m : Matched) (now new : Held) (g h : Outside) (e : Stop) → Matching m now g → Gets inner_token (Err e) now new g h → Gets (read_by reader) (Err e) old new f h
  matching_stops m now new g h e i d =
      i.goes (Err e) new h
      (gets_as (inner_token >>= (λ t. by_least (behind_one (decides_by now.names m) t))) (by_least (decides_by now.names m)) (Err e) now new g h (next_token m now g i)
      (gets_stop inner_token (λ t. by_least (behind_one (decides_by now.names m) t)) e now new g h d))

  pub reads_now : (m : Matched) (now new : Held) (g : Outside) → Matching m now g → Kept now new → Reads new.names shape m
  reads_now m now new g i keeps = reads_kept now.names new.names keeps.grows keeps.sound.numbered shape m i.reads
