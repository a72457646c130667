-- Looking at tokens for a quantity, step by step.
use Rattle.std.proofs.lemmas.Bool.Decides.{nat_tests}
use Rattle.std.proofs.Common.{pos, ◌<◌, w32, to_z, ◌≡◌, ◌-◌, ◌≤◌, ℕ, suc, Bool, true, false, List, [], ◌∷◌, ◌++◌, map, length, Option, Some, None, Result, Ok, Err, refl, sym, ap, ap₂, ◌∙◌, arith, append_assoc, length-append}
use Rattle.std.specs.Char.{IsScalar}
use Rattle.std.proofs.lemmas.Int.{to_z_pos}
use Rattle.std.specs.Result.{OnOk, IfOk}
use Rattle.std.specs.List.{All}
use Rattle.texml_base.specs.Outside.{Shelf}
use Rattle.std.proofs.lemmas.List.{map-append}
use Rattle.std.proofs.lemmas.List.Elements.{All-nil, All-cons, All-append}
use Rattle.std.proofs.Math.ListN.{get_or}
use Rattle.texml_token.specs.Token.{Token}
use Rattle.texml_token.specs.declared.tokens.Token.{Token as TokenCode}
use Rattle.texml_token.specs.Numbers.{Table, Extends, token_at, TokenWithin}
use Rattle.texml_token.proofs.Translation.{token_kept, token_more}
use Rattle.texml_watch.specs.declared.record.Record.{Record}
use Rattle.texml_scope.specs.Shown.{KeyCode}
use Rattle.texml_scope.specs.Texts.{Meaning}
use Rattle.texml_scope.specs.Numbers.{MeaningCode, meaning_at, key_at, name_text, KeyWithin}
use Rattle.texml_scope.specs.declared.values.MeaningOf.TheVariants as codes
use Rattle.texml_token.specs.declared.fault_code.TheConstants.{MISSING_NUMBER}
use Rattle.texml_expand.specs.declared.variables.Variable.{Variable}
use Rattle.texml_expand.specs.declared.variables.Variable.TheVariants as variables
use Rattle.texml_expand.specs.Variables.{Internal, index_of, key_of}
use Rattle.texml_expand.specs.VariableCodes.{HasNumber, key_by, internal_at, held_by}
use Rattle.texml_scan.specs.declared.looks.Look.{Look}
use Rattle.texml_scan.specs.declared.looks.Look.TheVariants.{End}
use Rattle.texml_scan.specs.declared.looks.Held.{Held as HeldLook}
use Rattle.texml_scan.specs.declared.looks.Held.TheVariants as held
use Rattle.texml_scan.proofs.Meanings.{look_of-map_meaning}
use Rattle.texml_expand.specs.declared.internal.Internal.{Internal as InternalCode}
use Rattle.texml_expand.specs.declared.internal.Internal.TheVariants as internals
use Rattle.texml_scan.specs.Grammar.{Asked, Wanting, Decided, Remainder}
use Rattle.texml_scan.specs.Looked.{look_of}
use Rattle.texml_expand.specs.declared.stop.Stop.{Stop}
use Rattle.texml_expand.specs.declared.engine.expanding.Seen.{Seen as SeenCode}
use Rattle.texml_expand.specs.declared.engine.expanding.Looked.{Looked as LookedCode}
use Rattle.texml_expand.specs.declared.machine.Machine.{Machine}
use Rattle.texml_expand.specs.declared.machine.Scanned.{Scanned}
use Rattle.texml_expand.specs.declared.machine.Scanned.TheVariants as scanned
use Rattle.texml_expand.specs.State.{State, nothing, Tex, Done, Ended, give, fault_at}
use Rattle.texml_expand.specs.Take.{means}
use Rattle.texml_expand.specs.Calls.{Seen, looks, Calls}
use Rattle.texml_expand.specs.Quantities.{Looked, internal, held_of, look_by, look, decided_on, without_end, next_looked, scan_token, scan_next, scan_on}
use Rattle.texml_expand.specs.Expand.{level}
use Rattle.texml_expand.specs.Machine.{Value, scanned_as, ended_as, GoesOn, IsOver, HasValue, machine_rest}
use Rattle.texml_expand.specs.Scanning.{seen_at, all_seen_at, SeenWithin, raw_in, MayGive, Turned}
use Rattle.texml_expand.specs.Held.{Held, state_of, Sound, Kept, Owns, Shrinks, Puts}
use Rattle.texml_expand.specs.Contract.{Outside}
use Rattle.texml_expand.specs.Doing.{Does}
use Rattle.texml_expand.proofs.Running.{shrinks_none, shrinks_then, shrinks_puts}
use Rattle.texml_expand.proofs.Lawful.{lawful_scan}
use Rattle.texml_expand.proofs.Looking.{lawful_internal, lawful_looked, lawful_look}
use Rattle.texml_expand.proofs.Total.{total, scan_is}
use Rattle.texml_expand.proofs.Doing.{Did, does_of, did_of, did_as, did_then, did_stop, did_now}
use Rattle.texml_expand.proofs.Fronts.{kept_then}

-- the number of a character is the same with a sign
pub scalar_signed : (c : ℕ) → IsScalar c → to_z w32 c ≡ pos c
scalar_signed c h = let below : c < 2147483648 = grind (arith, nat_tests) in to_z_pos w32 c below

-- no internal quantity
pub not_internal : (c : Calls) (texts : Table) (m : MeaningCode) (s : State) → ((place : ℕ) → m ≡ codes.Builtin place → ⊥) → ((k : KeyCode) → m ≡ codes.Quantity k → ⊥) → ((n : ℕ) → m ≡ codes.Number n → ⊥)
    → internal c (meaning_at texts m) s ≡ Ended (Tex (fault_at MISSING_NUMBER [] s.place)) nothing
not_internal c texts (codes.Builtin place) s builtin quantity number = absurd (builtin place refl)
not_internal c texts (codes.Quantity k) s builtin quantity number = absurd (quantity k refl)
not_internal c texts (codes.Number n) s builtin quantity number = absurd (number n refl)
not_internal c texts m s builtin quantity number = refl

pub no_value : {A : Type 0} (o : Option A) → ((v : A) → o ≡ Some v → ⊥) → o ≡ None
no_value None h = refl
no_value (Some v) h = absurd (h v refl)

-- the key of a variable has no names
pub key_same : (texts : Table) (v : Variable) (n : ℕ) → key_at texts (key_by v n) ≡ key_of v n
key_same texts variables.Cat n = refl
key_same texts variables.Lower n = refl
key_same texts variables.Upper n = refl
key_same texts variables.EscapeChar n = refl
key_same texts variables.EndLineChar n = refl
key_same texts variables.Count n = refl
key_same texts variables.Dimen n = refl
key_same texts variables.Skip n = refl
key_same texts variables.Toks n = refl

-- What was seen

abbrev pub looks_in : List SeenCode → List Look
looks_in = map (λ x. x.look)

pub looks_at : (texts : Table) (seen : List SeenCode) → looks (all_seen_at texts seen) ≡ looks_in seen
looks_at texts [] = refl
looks_at texts (x ∷ seen) = ap (λ l. x.look ∷ l) (looks_at texts seen)

seen_kept : (old new : Table) → Extends old new → (seen : List SeenCode) → All (SeenWithin (length old)) seen → all_seen_at new seen ≡ all_seen_at old seen
seen_kept old new g [] w = refl
seen_kept old new g (x ∷ seen) w =
    ap₂ (λ t l. record { token = t; look = x.look } ∷ l) (token_kept old new g x.token (w 0 x (omega arith))) (seen_kept old new g seen (λ k d lt. w (suc k) d (omega (arith, lt))))

seen_more : (m n : ℕ) → m ≤ n → (seen : List SeenCode) → All (SeenWithin m) seen → All (SeenWithin n) seen
seen_more m n le seen w = λ k d lt. token_more m n le (get_or seen k d).token (w k d lt)

-- What a scanner wants

-- one more token is looked at, as it stands or expanded
pub wants_one : (c : Calls) (g : Remainder Value) (seen : List Seen) (x : Scanned) (raw : Bool) (s : State) → raw_in x ≡ Some raw → scan_on c g seen (scanned_as x) s ≡ scan_next c g seen raw s
wants_one c g seen scanned.Expanded false s e = refl
wants_one c g seen scanned.Expanded true s e = cc
wants_one c g seen scanned.Raw true s e = refl
wants_one c g seen scanned.Raw false s e = cc
wants_one c g seen scanned.Asked raw s e = cc
wants_one c g seen (scanned.Decided v n) raw s e = cc
wants_one c g seen (scanned.Faulty f) raw s e = cc

-- or it is over
pub wants_none : (c : Calls) (g : Remainder Value) (seen : List Seen) (x : Scanned) (s : State) → raw_in x ≡ None → scan_on c g seen (scanned_as x) s ≡ decided_on seen (scanned_as x) s
wants_none c g seen scanned.Expanded s e = cc
wants_none c g seen scanned.Raw s e = cc
wants_none c g seen scanned.Asked s e = refl
wants_none c g seen (scanned.Decided v n) s e = refl
wants_none c g seen (scanned.Faulty f) s e = refl

goes_on : (x : Scanned) (raw : Bool) (P : Type 0) → raw_in x ≡ Some raw → GoesOn x P → P
goes_on scanned.Expanded raw P e h = h
goes_on scanned.Raw raw P e h = h
goes_on scanned.Asked raw P e h = cc
goes_on (scanned.Decided v n) raw P e h = cc
goes_on (scanned.Faulty f) raw P e h = cc

goes_map : (x : Scanned) (P Q : Type 0) → (P → Q) → GoesOn x P → GoesOn x Q
goes_map scanned.Expanded P Q f h = f h
goes_map scanned.Raw P Q f h = f h
goes_map scanned.Asked P Q f h = tt
goes_map (scanned.Decided v n) P Q f h = tt
goes_map (scanned.Faulty f) P Q g h = tt

-- one more
looks_one : (seen : List SeenCode) (x : SeenCode) (more : List Look) → looks_in seen ++ (x.look ∷ more) ≡ looks_in (seen ++ x ∷ []) ++ more
looks_one seen x more = sym (ap (λ l. l ++ more) (map-append (λ (x : SeenCode). x.look) seen (x ∷ [])) ∙ append_assoc (looks_in seen) (x.look ∷ []) more)

seen_one : (now mid new : Table) → Extends now new → Extends mid new → (seen : List SeenCode) (x : SeenCode) → All (SeenWithin (length now)) seen → TokenWithin (length mid) x.token
    → all_seen_at now seen ++ seen_at mid x ∷ [] ≡ all_seen_at new (seen ++ x ∷ [])
seen_one now mid new g k seen x w v =
    sym (map-append (seen_at new) seen (x ∷ []) ∙ ap₂ (λ l t. l ++ record { token = t; look = x.look } ∷ []) (seen_kept now new g seen w) (token_kept mid new k x.token v))

last_count : (n : ℕ) → suc n - 1 ≡ n
last_count n = omega arith

pub end_gone : (x : Scanned) → IsOver x → without_end (ended_as x) ≡ scanned_as x
end_gone scanned.Expanded h = absurd h
end_gone scanned.Raw h = absurd h
end_gone scanned.Asked h = absurd h
end_gone (scanned.Decided v n) h = ap (Decided v) (last_count n)
end_gone (scanned.Faulty f) h = refl

-- the look of a token is that which what is left asks for
look_same : {V : Type 0} (c : Calls) (g : Remainder V) (seen : List Seen) (left : Remainder V) (t : Token) (s : State) → ((more : List Look) → left more ≡ g (looks seen ++ more)) → look c g seen t s ≡ look c left [] t s
look_same c g seen left t s h = ap (λ v. look_by c t (means s.world t) v s) (sym (h (look_of t (means s.world t) held.Nothing ∷ [])))

-- the look of a token by the code, and what is held of a quantity
pub look_at : (texts : Table) (t : Token) (m : MeaningCode) (h : HeldLook) → look_of t m h ≡ look_of t (meaning_at texts m) h
look_at texts t m h = sym (look_of-map_meaning (name_text texts) (token_at texts) t m h)

held_at : (texts : Table) (q : InternalCode) → held_by q ≡ held_of (internal_at texts q)
held_at texts (internals.Number i) = refl
held_at texts (internals.Dimension d) = refl
held_at texts (internals.Glue x) = refl
held_at texts (internals.Tokens list) = refl

-- the look with the quantity that the token begins
pub look_behind : (old new : Table) → Extends old new → (t : TokenCode) → TokenWithin (length old) t → (m : MeaningCode) (q : InternalCode)
    → look_of (token_at new t) m (held_by q) ≡ look_of (token_at old t) (meaning_at old m) (held_of (internal_at new q))
look_behind old new g t w m q = ap (λ x. look_of x m (held_by q)) (token_kept old new g t w) ∙ ap (look_of (token_at old t) m) (held_at new q) ∙ look_at old (token_at old t) m (held_of (internal_at new q))

plain_look : (c : Calls) (t : Token) (m : Meaning) (x : Scanned) (s : State) → (x ≡ scanned.Asked → ⊥) → look_by c t m (scanned_as x) s ≡ Done (look_of t m held.Nothing) s nothing
plain_look c t m scanned.Expanded s h = refl
plain_look c t m scanned.Raw s h = refl
plain_look c t m scanned.Asked s h = absurd (h refl)
plain_look c t m (scanned.Decided v n) s h = refl
plain_look c t m (scanned.Faulty f) s h = refl

module _ {T : Type 0} (hear part : T → Record → T → Type 0) (g : Remainder Value) where
  -- the verdict on one look
  one_look : (t : Token) (m : Meaning) (x : Scanned) (s : State) → m ≡ means s.world t → g (look_of t m held.Nothing ∷ []) ≡ scanned_as x → look total g [] t s ≡ look_by total t m (scanned_as x) s
  one_look t m x s same is = sym (ap (λ (m : Meaning). look_by total t m (g (look_of t m held.Nothing ∷ [])) s) same) ∙ ap (λ v. look_by total t m v s) is

  pub look_now : (t : Token) (m : Meaning) (x : Scanned) (old : Held) (f : Outside) (a : T) → Sound old → old.stop ≡ None → Owns f.shelf old → m ≡ means (state_of f.shelf old).world t → g (look_of t m held.Nothing ∷ []) ≡ scanned_as x → (x ≡ scanned.Asked → ⊥)
      → Does hear part (λ n. look (level n) g [] t) (Ok (look_of t m held.Nothing)) old old f f a a
  look_now t m x old f a sound running owns same is other =
      does_of hear part (λ c. look c g [] t) (lawful_look g [] t) (Ok (look_of t m held.Nothing)) old old f f a a
      (did_as hear part _ _ (Ok (look_of t m held.Nothing)) old old f f a a (one_look t m x (state_of f.shelf old) same is ∙ plain_look total t m x (state_of f.shelf old) other) (did_now hear part (look_of t m held.Nothing) old f a sound running owns))

  -- the quantity that it begins
  by_internal : (t : Token) (m : Meaning) (r : Result Look Stop) (old new : Held) (f h : Outside) (a b : T) → m ≡ means (state_of f.shelf old).world t → g (look_of t m held.Nothing ∷ []) ≡ Wanting Asked
      → Did hear part (look_by total t m (scanned_as scanned.Asked) (state_of f.shelf old)) r old new f h a b → Does hear part (λ n. look (level n) g [] t) r old new f h a b
  by_internal t m r old new f h a b same is d =
      does_of hear part (λ c. look c g [] t) (lawful_look g [] t) r old new f h a b (did_as hear part _ _ r old new f h a b (one_look t m scanned.Asked (state_of f.shelf old) same is) d)

  pub look_stops : (t : Token) (m : Meaning) (e : Stop) (old new : Held) (f h : Outside) (a b : T) → m ≡ means (state_of f.shelf old).world t → g (look_of t m held.Nothing ∷ []) ≡ Wanting Asked → Does hear part (λ n. internal (level n) m) (Err e) old new f h a b
      → Does hear part (λ n. look (level n) g [] t) (Err e) old new f h a b
  look_stops t m e old new f h a b same is d =
      by_internal t m (Err e) old new f h a b same is
      (did_stop hear part (internal total m (state_of f.shelf old)) (λ q. give (look_of t m (held_of q))) e old new f h a b (did_of hear part (λ c. internal c m) (lawful_internal m) (Err e) old new f h a b d))

  pub look_done : (t : Token) (m : Meaning) (q : Internal) (old new : Held) (f h : Outside) (a b : T) → m ≡ means (state_of f.shelf old).world t → g (look_of t m held.Nothing ∷ []) ≡ Wanting Asked → Does hear part (λ n. internal (level n) m) (Ok q) old new f h a b
      → Does hear part (λ n. look (level n) g [] t) (Ok (look_of t m (held_of q))) old new f h a b
  look_done t m q old new f h a b same is d =
      by_internal t m (Ok (look_of t m (held_of q))) old new f h a b same is
      (did_then hear part (internal total m (state_of f.shelf old)) (λ q. give (look_of t m (held_of q))) q (Ok (look_of t m (held_of q))) old new new f h h a b b (did_of hear part (λ c. internal c m) (lawful_internal m) (Ok q) old new f h a b d)
      (did_now hear part (look_of t m (held_of q)) new h b d.keeps.sound d.stops.kept d.holds.owns))

  abbrev Scan : List SeenCode → Result Value Stop → Held → Held → Outside → Outside → T → T → Type 0
  Scan seen r old new f k a b = Did hear part (total.scan g (all_seen_at old.names seen) (state_of f.shelf old)) r old new f k a b

  -- an engine that looks at tokens: these were seen, the scanner stands for what is left, and what it does from now on is what the whole does
  pub record Scanning (old : Held) (f : Outside) (a : T) (rest : Remainder Value) (x : Scanned) (seen : List SeenCode) (now : Held) (k : Outside) (b : T) : Type 0 where
    pub running : now.stop ≡ None
    pub sound : Sound now
    pub within : All (SeenWithin (length now.names)) seen
    pub is : g (looks_in seen) ≡ scanned_as x
    pub left : GoesOn x ((more : List Look) → rest more ≡ g (looks_in seen ++ more))
    pub owns : Owns k.shelf now
    pub lower : Shrinks (length seen) f.shelf old k.shelf now
    pub on : (r : Result Value Stop) (new : Held) (h : Outside) (c : T) → Scan seen r now new k h b c → Scan [] r old new f h a c

  pub scanning_none : (h : Held) (f : Outside) (a : T) (left : Remainder Value) (x : Scanned) → h.stop ≡ None → Sound h → Owns f.shelf h → g [] ≡ scanned_as x → ((more : List Look) → left more ≡ g more) → Scanning h f a left x [] h f a
  scanning_none h f a left x running sound owns is same = record {
    running = running;
    sound = sound;
    within = All-nil (SeenWithin (length h.names));
    is = is;
    left = always x ((more : List Look) → left more ≡ g more) same;
    owns = owns;
    lower = shrinks_none f.shelf h;
    on = λ r new k c d. d;
  }
    where
      always : (x : Scanned) (P : Type 0) → P → GoesOn x P
      always scanned.Expanded P h = h
      always scanned.Raw P h = h
      always scanned.Asked P h = tt
      always (scanned.Decided v n) P h = tt
      always (scanned.Faulty f) P h = tt

  pub scan_does : (r : Result Value Stop) (old now new : Held) (f k h : Outside) (a b c : T) (left : Remainder Value) (x : Scanned) (seen : List SeenCode) → Scanning old f a left x seen now k b → Scan seen r now new k h b c
      → Does hear part (λ n. (level n).scan g []) r old new f h a c
  scan_does r old now new f k h a b c left x seen i d = does_of hear part (λ c. c.scan g []) (lawful_scan g) r old new f h a c (i.on r new h c d)

  -- by what the scanner makes of what was seen
  by_verdict : (r : Result Value Stop) (now new : Held) (k h : Outside) (b c : T) (seen : List SeenCode) (x : Scanned) → g (looks_in seen) ≡ scanned_as x → Did hear part (scan_on total g (all_seen_at now.names seen) (scanned_as x) (state_of k.shelf now)) r now new k h b c
      → Scan seen r now new k h b c
  by_verdict r now new k h b c seen x is d =
      did_as hear part _ _ r now new k h b c
      (scan_is g (all_seen_at now.names seen) (state_of k.shelf now) ∙ ap (λ v. scan_on total g (all_seen_at now.names seen) v (state_of k.shelf now)) (ap g (looks_at now.names seen) ∙ is)) d

  -- the scanner has decided
  pub scan_decides : (r : Result Value Stop) (old now new : Held) (f k h : Outside) (a b c : T) (left : Remainder Value) (x : Scanned) (seen : List SeenCode) → Scanning old f a left x seen now k b → raw_in x ≡ None
      → Did hear part (decided_on (all_seen_at now.names seen) (scanned_as x) (state_of k.shelf now)) r now new k h b c → Does hear part (λ n. (level n).scan g []) r old new f h a c
  scan_decides r old now new f k h a b c left x seen i none d =
      scan_does r old now new f k h a b c left x seen i
      (by_verdict r now new k h b c seen x i.is (did_as hear part _ _ r now new k h b c (wants_none total g (all_seen_at now.names seen) x (state_of k.shelf now) none) d))

  -- by the next token
  by_token : (r : Result Value Stop) (now new : Held) (k h : Outside) (b c : T) (seen : List SeenCode) (x : Scanned) (raw : Bool) → g (looks_in seen) ≡ scanned_as x → raw_in x ≡ Some raw → Did hear part (scan_next total g (all_seen_at now.names seen) raw (state_of k.shelf now)) r now new k h b c
      → Scan seen r now new k h b c
  by_token r now new k h b c seen x raw is some d =
      by_verdict r now new k h b c seen x is (did_as hear part _ _ r now new k h b c (wants_one total g (all_seen_at now.names seen) x raw (state_of k.shelf now) some) d)

  -- it can't be looked at
  pub scan_stops : (e : Stop) (old now new : Held) (f k h : Outside) (a b c : T) (left : Remainder Value) (x : Scanned) (seen : List SeenCode) (raw : Bool) → Scanning old f a left x seen now k b → raw_in x ≡ Some raw
      → Does hear part (λ n. next_looked (level n) raw) (Err e) now new k h b c → Does hear part (λ n. (level n).scan g []) (Err e) old new f h a c
  scan_stops e old now new f k h a b c left x seen raw i some d =
      scan_does (Err e) old now new f k h a b c left x seen i
      (by_token (Err e) now new k h b c seen x raw i.is some
      (did_stop hear part (next_looked total raw (state_of k.shelf now)) (scan_token total g (all_seen_at now.names seen)) e now new k h b c (did_of hear part (λ c. next_looked c raw) (lawful_looked raw) (Err e) now new k h b c d)))

  -- behind a token, and what follows it
  by_looked : (o : Option Looked) (r : Result Value Stop) (now mid new : Held) (k j h : Outside) (b y c : T) (seen : List SeenCode) (x : Scanned) (raw : Bool) → g (looks_in seen) ≡ scanned_as x → raw_in x ≡ Some raw
      → Does hear part (λ n. next_looked (level n) raw) (Ok o) now mid k j b y → Did hear part (scan_token total g (all_seen_at now.names seen) o (state_of j.shelf mid)) r mid new j h y c → Scan seen r now new k h b c
  by_looked o r now mid new k j h b y c seen x raw is some d e =
      by_token r now new k h b c seen x raw is some
      (did_then hear part (next_looked total raw (state_of k.shelf now)) (scan_token total g (all_seen_at now.names seen)) o r now mid new k j h b y c
      (did_of hear part (λ c. next_looked c raw) (lawful_looked raw) (Ok o) now mid k j b y d) e)

  -- the end
  pub scan_ends : (r : Result Value Stop) (old now mid new : Held) (f k j h : Outside) (a b y c : T) (left : Remainder Value) (x end : Scanned) (seen : List SeenCode) (raw : Bool) → Scanning old f a left x seen now k b → raw_in x ≡ Some raw
      → Does hear part (λ n. next_looked (level n) raw) (Ok None) now mid k j b y → left (End ∷ []) ≡ ended_as end → IsOver end → Did hear part (decided_on (all_seen_at mid.names seen) (scanned_as end) (state_of j.shelf mid)) r mid new j h y c
      → Does hear part (λ n. (level n).scan g []) r old new f h a c
  scan_ends r old now mid new f k j h a b y c left x end seen raw i some d is over e =
      let same = ap without_end (ap (λ l. g (l ++ End ∷ [])) (looks_at now.names seen) ∙ sym (goes_on x raw _ some i.left (End ∷ [])) ∙ is) ∙ end_gone end over in
      scan_does r old now new f k h a b c left x seen i
      (by_looked None r now mid new k j h b y c seen x raw i.is some d
      (did_as hear part _ _ r mid new j h y c
      (ap (λ v. decided_on (all_seen_at now.names seen) v (state_of j.shelf mid)) same ∙ ap (λ l. decided_on l (scanned_as end) (state_of j.shelf mid)) (sym (seen_kept now.names mid.names d.keeps.grows seen i.within))) e))

  -- a token whose look can't be told
  pub scan_unseen : (e : Stop) (old now mid new : Held) (f k j h : Outside) (a b y c : T) (left : Remainder Value) (x : Scanned) (seen : List SeenCode) (raw : Bool) (t : Looked) → Scanning old f a left x seen now k b → raw_in x ≡ Some raw
      → Does hear part (λ n. next_looked (level n) raw) (Ok (Some t)) now mid k j b y → Does hear part (λ n. look (level n) left [] t.counts) (Err e) mid new j h y c → Does hear part (λ n. (level n).scan g []) (Err e) old new f h a c
  scan_unseen e old now mid new f k j h a b y c left x seen raw t i some d u =
      let same = look_same total g (all_seen_at now.names seen) left t.counts (state_of j.shelf mid) (λ more. goes_on x raw _ some i.left more ∙ ap (λ l. g (l ++ more)) (sym (looks_at now.names seen))) in
      scan_does (Err e) old now new f k h a b c left x seen i
      (by_looked (Some t) (Err e) now mid new k j h b y c seen x raw i.is some d
      (did_stop hear part (look total g (all_seen_at now.names seen) t.counts (state_of j.shelf mid)) _ e mid new j h y c
      (did_as hear part _ _ (Err e) mid new j h y c same (did_of hear part (λ c. look c left [] t.counts) (lawful_look left [] t.counts) (Err e) mid new j h y c u))))

  -- one more token was looked at
  pub scanning_on : (old now mid new : Held) (f k j h : Outside) (a b y c : T) (m n : Machine) (x z : Scanned) (seen : List SeenCode) (raw : Bool) (t : LookedCode) (l : Look) → Scanning old f a (machine_rest m) x seen now k b → raw_in x ≡ Some raw
      → Does hear part (λ n. next_looked (level n) raw) (Ok (Some (record { token = token_at mid.names t.token; counts = token_at mid.names t.counts }))) now mid k j b y → TokenWithin (length mid.names) t.token
      → Shrinks 1 k.shelf now j.shelf mid → Does hear part (λ n. look (level n) (machine_rest m) [] (token_at mid.names t.counts)) (Ok l) mid new j h y c → Shrinks 0 j.shelf mid h.shelf new → Turned m l z n
      → Scanning old f a (machine_rest n) z (seen ++ record { token = t.token; look = l } ∷ []) new h c
  scanning_on old now mid new f k j h a b y c m n x z seen raw t l i some d w low u lower turned =
      let left : (more : List Look) → machine_rest m more ≡ g (looks_in seen ++ more) = goes_on x raw ((more : List Look) → machine_rest m more ≡ g (looks_in seen ++ more)) some i.left in
      let first : Looked = record { token = token_at mid.names t.token; counts = token_at mid.names t.counts } in
      let same = look_same total g (all_seen_at now.names seen) (machine_rest m) (token_at mid.names t.counts) (state_of j.shelf mid) (λ more. left more ∙ ap (λ l. g (l ++ more)) (sym (looks_at now.names seen))) in
      let mine : SeenCode = record { token = t.token; look = l } in
      let kept : Kept now new = kept_then now mid new d.keeps u.keeps in
      record {
        running = u.stops.kept;
        sound = u.keeps.sound;
        within = All-append (SeenWithin (length new.names)) seen (mine ∷ []) (seen_more (length now.names) (length new.names) kept.grows.longer seen i.within)
            (All-cons (SeenWithin (length new.names)) mine [] (token_more (length mid.names) (length new.names) u.keeps.grows.longer t.token w) (All-nil (SeenWithin (length new.names))));
        is = ap g (map-append (λ (x : SeenCode). x.look) seen (mine ∷ [])) ∙ sym (left (l ∷ [])) ∙ turned.is;
        left = goes_map z ((more : List Look) → machine_rest m (l ∷ more) ≡ machine_rest n more) ((more : List Look) → machine_rest n more ≡ g (looks_in (seen ++ mine ∷ []) ++ more)) (λ h more. sym (h more) ∙ left (l ∷ more) ∙ ap g (looks_one seen mine more)) turned.on;
        owns = u.holds.owns;
        lower = shrinks_then (length seen) 1 (length (seen ++ mine ∷ [])) f.shelf k.shelf h.shelf old now new i.lower (shrinks_then 1 0 1 k.shelf j.shelf h.shelf now mid new low lower (omega arith)) (omega (arith, length-append seen (mine ∷ [])));
        on = λ r q p v done. i.on r q p v
            (by_looked (Some first) r now mid q k j p b y v seen x raw i.is some d
            (did_then hear part (look total g (all_seen_at now.names seen) (token_at mid.names t.counts) (state_of j.shelf mid)) _ l r mid new q j h p y c v
            (did_as hear part _ _ (Ok l) mid new j h y c same (did_of hear part (λ c. look c (machine_rest m) [] (token_at mid.names t.counts)) (lawful_look (machine_rest m) [] (token_at mid.names t.counts)) (Ok l) mid new j h y c u))
            (did_as hear part _ _ r new q h p c v (ap (λ s. total.scan g s (state_of h.shelf new)) (seen_one now.names mid.names new.names kept.grows u.keeps.grows seen mine i.within w)) done)));
      }

-- what was seen is put back at most
pub scanned_shrinks : (r : Result Value Stop) (n : ℕ) (a b : Shelf) (old now new : Held) → Shrinks n a old b now → OnOk r (Puts n now new) → OnOk r (Shrinks 0 a old b new)
scanned_shrinks (Ok v) n a b old now new s p = shrinks_puts n n 0 a b old now new s p (omega arith)
scanned_shrinks (Err e) n a b old now new s p = tt

-- the value that was decided on is one that the scanner may give
pub decided_gives : (g : Remainder Value) (r : Result Value Stop) (xs : List Look) (x : Scanned) → g xs ≡ scanned_as x → IfOk r (λ v. HasValue v x) → IfOk r (MayGive g)
decided_gives g (Ok v) xs scanned.Expanded is h = absurd h
decided_gives g (Ok v) xs scanned.Raw is h = absurd h
decided_gives g (Ok v) xs scanned.Asked is h = absurd h
decided_gives g (Ok v) xs (scanned.Decided w n) is h = record { looks = xs; back = n; is = is ∙ ap (λ z. Decided z n) h }
decided_gives g (Ok v) xs (scanned.Faulty f) is h = absurd h
decided_gives g (Err e) xs x is h = tt

pub ended_gives : (g : Remainder Value) (r : Result Value Stop) (xs : List Look) (x : Scanned) → g xs ≡ ended_as x → IfOk r (λ v. HasValue v x) → IfOk r (MayGive g)
ended_gives g (Ok v) xs scanned.Expanded is h = absurd h
ended_gives g (Ok v) xs scanned.Raw is h = absurd h
ended_gives g (Ok v) xs scanned.Asked is h = absurd h
ended_gives g (Ok v) xs (scanned.Decided w n) is h = record { looks = xs; back = suc n; is = is ∙ ap (λ z. Decided z (suc n)) h }
ended_gives g (Ok v) xs (scanned.Faulty f) is h = absurd h
ended_gives g (Err e) xs x is h = tt

-- the end is no token of what was seen
pub end_gives : {T : Type 0} (hear part : T → Record → T → Type 0) (g : Remainder Value) (r : Result Value Stop) (old now : Held) (f k : Outside) (a b : T) (left : Remainder Value) (x end : Scanned) (seen : List SeenCode) (raw : Bool)
    → Scanning hear part g old f a left x seen now k b → raw_in x ≡ Some raw → left (End ∷ []) ≡ ended_as end → IfOk r (λ v. HasValue v end) → IfOk r (MayGive g)
end_gives hear part g r old now f k a b left x end seen raw i some is h =
    ended_gives g r (looks_in seen ++ End ∷ []) end (sym (goes_on x raw ((more : List Look) → left more ≡ g (looks_in seen ++ more)) some i.left (End ∷ [])) ∙ is) h

-- so many names give the key of a variable, which has none
pub key_within : (count : ℕ) (v : Variable) (n : ℕ) → HasNumber (index_of v) n → KeyWithin count (key_by v n)
key_within count variables.Cat n h = h
key_within count variables.Lower n h = h
key_within count variables.Upper n h = h
key_within count variables.EscapeChar n h = tt
key_within count variables.EndLineChar n h = tt
key_within count variables.Count n h = tt
key_within count variables.Dimen n h = tt
key_within count variables.Skip n h = tt
key_within count variables.Toks n h = tt
