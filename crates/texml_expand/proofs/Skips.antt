-- Skipped text, token by token.
use Rattle.std.proofs.Common.{◌≡◌, ℕ, ◌+◌, ◌==◌, ◌≤◌, Bool, true, false, ◌&&◌, if◌then◌else◌, count_by, List, [], ◌∷◌, ◌++◌, append_assoc, append-nil, length, map, Option, Some, None, refl, sym, ap, ap₂, ◌∙◌, arith}
use Rattle.std.proofs.lemmas.List.{map-append}
use Rattle.std.proofs.lemmas.List.Folds.{fold-map}
use Rattle.texml_token.specs.Token.{Token}
use Rattle.texml_token.specs.declared.fault_code.TheConstants.{DEPTH}
use Rattle.texml_scope.specs.Texts.{Meaning, World}
use Rattle.texml_scope.specs.Values.{Meaning as MeaningBy}
use Rattle.texml_cond.specs.declared.limits.Word.{Word}
use Rattle.texml_cond.specs.declared.skipping.Part.{Part}
use Rattle.texml_cond.specs.declared.skipping.Part.TheVariants.{Begins, Stops, Passes}
use Rattle.texml_cond.specs.declared.skipping.SkipStep.{SkipStep}
use Rattle.texml_cond.specs.declared.skipping.SkipStep.TheVariants.{More, Reached, TooDeep}
use Rattle.texml_cond.specs.declared.skipping.TheConstants.{DEEPEST}
use Rattle.texml_cond.specs.Skipping.{MeaningCode, part_of, is_begin, is_end, begun, ended, decided_by, or_later, skip_behind, skip}
use Rattle.texml_expand.specs.declared.feeding.Verdict.{Verdict}
use Rattle.texml_expand.specs.declared.feeding.Verdict.TheVariants.{TooShort, Yields, Refuses}
use Rattle.texml_input.specs.Next.{Taken, Given, Got, AtEnd, Invalid, NotUtf8, next}
use Rattle.texml_input.specs.Codes.{cats_of, end_of}
use Rattle.texml_expand.specs.State.{State, Gains, Tex, room, nothing, Done, Ended, chain, fault_at}
use Rattle.texml_expand.specs.Take.{take_token, take_given, take, means}
use Rattle.texml_expand.specs.Least.{inside_if, inside, inner_token, decides, by_least}
use Rattle.texml_expand.specs.Conditionals.{reached, skipped}
use Rattle.texml_expand.proofs.Leading.{Leads, leads_chain, leads_weaker, leads_at}
use Rattle.texml_expand.proofs.Stepping.{behind_one, by_least_is, by_least_now, Decided, by_least_takes}

-- Skipping goes by what tokens do in it alone

begun_parts : {N T : Type 0} (ms : List (MeaningBy N T)) → begun ms ≡ count_by is_begin (map part_of ms)
begun_parts ms = sym (fold-map _ part_of 0 ms)

ended_parts : {N T : Type 0} (ms : List (MeaningBy N T)) → ended ms ≡ count_by is_end (map part_of ms)
ended_parts ms = sym (fold-map _ part_of 0 ms)

decides_part : List Part → Part → SkipStep
decides_part seen Begins = if count_by is_begin seen + 1 == count_by is_end seen + DEEPEST then TooDeep else More
decides_part seen (Stops word) = if count_by is_begin seen == count_by is_end seen then Reached word else More
decides_part seen Passes = More

skip_parts : List Part → List Part → SkipStep
skip_parts seen [] = More
skip_parts seen (p ∷ ps) = or_later (decides_part seen p) (skip_parts (seen ++ p ∷ []) ps)

decided_parts : {N T : Type 0} (seen : List (MeaningBy N T)) (p : Part) → decided_by seen p ≡ decides_part (map part_of seen) p
unfolding decides_part
decided_parts seen Begins = λ i. if begun_parts seen i + 1 == ended_parts seen i + DEEPEST then TooDeep else More
decided_parts seen (Stops word) = λ i. if begun_parts seen i == ended_parts seen i then Reached word else More
decided_parts seen Passes = refl

behind_parts : {N T : Type 0} (seen ms : List (MeaningBy N T)) → skip_behind seen ms ≡ skip_parts (map part_of seen) (map part_of ms)
unfolding skip_parts
behind_parts seen [] = refl
behind_parts seen (m ∷ ms) =
    ap₂ or_later (decided_parts seen (part_of m)) (behind_parts (seen ++ m ∷ []) ms ∙ ap (λ ps. skip_parts ps (map part_of ms)) (map-append part_of seen (m ∷ [])))

pub same_skip : {N T M U : Type 0} (ms : List (MeaningBy N T)) (ns : List (MeaningBy M U)) → map part_of ms ≡ map part_of ns → skip ms ≡ skip ns
same_skip ms ns e = behind_parts [] ms ∙ ap (skip_parts []) e ∙ sym (behind_parts [] ns)

-- Taking a token changes no meaning

token_world : (b : Bool) (x : Taken) (bytes : ℕ) (s t : State) → t.world ≡ s.world → Leads (λ o u. u.world ≡ s.world) (take_token b x bytes t)
token_world true x bytes s t e = tt
token_world false x bytes s t e = e

given_world : (s : State) (g : Given) → Leads (λ o t. t.world ≡ s.world) (take_given g s)
given_world s (Got x rest place bytes) = token_world (s.absorbing && x.crossed) x bytes s (record s { rest = rest; place = place }) refl
given_world s (AtEnd place bytes) = refl
given_world s (Invalid c place bytes) = tt
given_world s (NotUtf8 place bytes) = tt

take_world : (s : State) → Leads (λ o t. t.world ≡ s.world) (take s)
take_world s = given_world s (next (cats_of s.world) (end_of s.world) s.rest s.place)

if_world : (w : World) (b : Bool) (x : Token) (t : State) → t.world ≡ w → Leads (λ y u. u.world ≡ w) (inside_if b x t)
if_world w true x t e = tt
if_world w false x t e = e

inside_world : (w : World) (o : Option Taken) (t : State) → t.world ≡ w → Leads (λ y u. u.world ≡ w) (inside o t)
inside_world w None t e = tt
inside_world w (Some x) t e = if_world w x.crossed x.token t e

inner_world : (s : State) → Leads (λ y u. u.world ≡ s.world) (inner_token s)
inner_world s = leads_chain (λ o t. t.world ≡ s.world) (λ y u. u.world ≡ s.world) (take s) inside (take_world s) (λ o t e. inside_world s.world o t e)

-- Skipping on

-- tokens of these meanings were skipped, and this is what more tokens decide behind them
pub record Skips (s : State) (seen : List MeaningCode) (now : State) : Type 0 where
  pub meant : List Meaning
  pub parts : map part_of meant ≡ map part_of seen
  pub world : now.world ≡ s.world
  pub decide : List Token → Verdict Word
  pub on : (list : List Token) → decide list ≡ reached (skip (meant ++ map (means s.world) list))

abbrev pub skips_none : (s : State) → Skips s [] s
skips_none s = record { meant = []; parts = refl; world = refl; decide = λ list. reached (skip (map (means s.world) list)); on = λ list. refl }

module _ (s now : State) (seen : List MeaningCode) (h : Skips s seen now) (fed : skip seen ≡ More) where
  short : h.decide [] ≡ TooShort
  short = h.on [] ∙ ap (λ (ms : List Meaning). reached (skip ms)) (append-nil h.meant) ∙ ap reached (same_skip h.meant seen h.parts ∙ fed)

  -- the next token, and what is decided behind it
  pub skips_next : by_least h.decide now ≡ chain (inner_token now) (λ t. by_least (behind_one h.decide t))
  skips_next = by_least_is h.decide now (ap decides short)

module _ (s now : State) (seen : List MeaningCode) (h : Skips s seen now) (t : Token) (new : State) (gains : Gains) (e : inner_token now ≡ Done t new gains) (m : MeaningCode) (means_so : part_of (means new.world t) ≡ part_of m) where
  pub stays : new.world ≡ s.world
  stays = leads_at (λ y u. u.world ≡ now.world) (inner_token now) t new gains e (inner_world now) ∙ h.world

  pub all : List Meaning
  all = h.meant ++ means s.world t ∷ []

  pub all_parts : map part_of all ≡ map part_of (seen ++ m ∷ [])
  unfolding all
  all_parts =
      map-append part_of h.meant (means s.world t ∷ [])
      ∙ ap₂ (λ a p. a ++ p ∷ []) h.parts (ap (λ w. part_of (means w t)) (sym stays) ∙ means_so)
      ∙ sym (map-append part_of seen (m ∷ []))

  pub on_all : (list : List Token) → h.decide (t ∷ list) ≡ reached (skip (all ++ map (means s.world) list))
  unfolding all
  on_all list = h.on (t ∷ list) ∙ ap (λ (ms : List Meaning). reached (skip ms)) (sym (append_assoc h.meant (means s.world t ∷ []) (map (means s.world) list)))

  -- more is skipped
  abbrev pub skips_more : Skips s (seen ++ m ∷ []) new
  skips_more = record { meant = all; parts = all_parts; world = stays; decide = behind_one h.decide t; on = on_all }

  verdict : (step : SkipStep) → skip (seen ++ m ∷ []) ≡ step → h.decide (t ∷ []) ≡ reached step
  verdict step d = on_all [] ∙ ap (λ (ms : List Meaning). reached (skip ms)) (append-nil all) ∙ ap reached (same_skip all (seen ++ m ∷ []) all_parts ∙ d)

  -- a word is reached
  pub skips_reach : (word : Word) → skip (seen ++ m ∷ []) ≡ Reached word → by_least (behind_one h.decide t) new ≡ Done word new nothing
  skips_reach word d = by_least_now (behind_one h.decide t) new (Yields word) (verdict (Reached word) d) refl

  -- too many conditionals have begun
  pub skips_deep : skip (seen ++ m ∷ []) ≡ TooDeep → by_least (behind_one h.decide t) new ≡ Ended (Tex (fault_at DEPTH [] new.place)) nothing
  skips_deep d = by_least_now (behind_one h.decide t) new (Refuses DEPTH) (verdict TooDeep d) refl

-- Less is left to be read behind skipped text

some_tokens : (s : State) (word : Word) (list : List Token) → reached (skip (map (means s.world) list)) ≡ Yields word → 1 ≤ length list
some_tokens s word [] e = cc
some_tokens s word (t ∷ list) e = omega arith

-- a word was reached by a token at least, and no expansion began
pub record Reaches (s t : State) : Type 0 where
  pub begun : t.begun ≡ s.begun
  pub room : room t + 1 ≤ room s

reaches : (s : State) (word : Word) (t : State) → Decided (λ list. reached (skip (map (means s.world) list))) s word t → Reaches s t
reaches s word t d = record { begun = d.takes.begun; room = let l = d.takes.lower.size d.takes.begun in let n = some_tokens s word d.list d.is in omega (arith, l, n) }

pub skipped_reaches : (s : State) → Leads (λ word t. Reaches s t) (skipped s)
skipped_reaches s =
    leads_weaker (Decided (λ list. reached (skip (map (means s.world) list))) s) (λ word t. Reaches s t) (skipped s) (reaches s) (by_least_takes (λ list. reached (skip (map (means s.world) list))) s)
