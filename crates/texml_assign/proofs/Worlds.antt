-- What an engine stands for when its world is changed.
use Rattle.std.proofs.Common.{◌≡◌, ◌≢◌, ◌≤◌, ◌+◌, ℕ, [], ◌∷◌, map, arith, Bool, true, false, List, length, Option, None, Some, option_map, Result, Ok, Err, refl, sym, ap, ap₂, ◌∙◌, subst}
use Rattle.std.specs.Option.{option_to_list}
use Rattle.std.specs.List.{All}
use Rattle.std.proofs.lemmas.List.Elements.{All-tail}
use Rattle.std.proofs.lemmas.List.Sums.{sum_by-cons}
use Rattle.texml_base.specs.Outside.{Shelf}
use Rattle.std.specs.Result.{MatchResult, OnOk}
use Rattle.texml_base.specs.Rising.{add_up}
use Rattle.texml_token.specs.Numbers.{Table, Extends, Numbered, token_at, tokens_at, TokenWithin, TokensWithin, OptionWithin}
use Rattle.texml_token.specs.declared.tokens.Token.{Token as TokenCode}
use Rattle.texml_token.proofs.Table.{extends_refl}
use Rattle.texml_token.proofs.Translation.{token_kept, token_more}
use Rattle.texml_scope.specs.declared.values.KeyOf.TheVariants as keys
use Rattle.texml_scope.specs.declared.values.FaultOf.TheVariants.{NoGroup, WrongGroup}
use Rattle.texml_scope.specs.Groups.{EndFault, fault_at, begin_group, keep_after, end_group}
use Rattle.texml_scope.specs.Values.{same_key, same_kind}
use Rattle.texml_scope.specs.Shown.{Shown, KeyCode, ValueCode, world_of, RoseByChanges}
use Rattle.texml_scope.specs.Numbers.{KindCode, world_at, answer_at, key_at, key_back, value_at, kind_at, KeyWithin, KindWithin, ValueWithin, WorldCovered}
use Rattle.texml_scope.proofs.Texts.{world_stays, world_set_local, world_set_global, world_begin, world_keep_after, world_end}
use Rattle.texml_scope.proofs.Covering.{world_more, set_local_covered, set_global_covered, begin_covered, keep_after_covered, end_covered}
use Rattle.texml_expand.specs.declared.stop.Stop.{Stop}
use Rattle.texml_expand.specs.declared.stop.Stop.TheVariants as stop
use Rattle.texml_expand.specs.State.{State, nothing, Done, Ended, Tex, change}
use Rattle.texml_expand.specs.State.{fault_at as fault_here}
use Rattle.texml_expand.specs.Expand.{back, put}
use Rattle.texml_expand.specs.Held.{Held, state_of, place_of, Sound, Kept, SameFiles, Puts, Progress}
use Rattle.texml_expand.specs.Contract.{IsFaultAt, Silent, Local}
use Rattle.texml_input.specs.Rest.{items_at}
use Rattle.texml_input.specs.Held.{Source, Plain, Marked, File, Fence, aside_of, SourceWithin, SourcesWithin}
use Rattle.texml_input.proofs.Sources.{rest_grown, sources_more}
use Rattle.texml_expand.proofs.Taking.{silent_fault}
use Rattle.texml_assign.specs.Sets.{set, begin_kind, end_code, ended, end_kind, read_after, put_kept_of, put_kept}
use Rattle.texml_assign.proofs.Rooms.{kept_after, below_room, keep_room, ended_room}
use Rattle.texml_expand.proofs.Progress.{progress_then}
use Rattle.texml_assign.proofs.Doing.{advances_stopped}
use Rattle.texml_assign.specs.Setting.{set_by}

-- a given key stays as the table grows
pub key_stays : (old new : Table) → Extends old new → (k : KeyCode) → KeyWithin (length old) k → key_at new k ≡ key_at old k
key_stays old new g (keys.Name n) h = ap keys.Name (g.texts n.0 h.1)
key_stays old new g (keys.Counter n) h = ap keys.Counter (g.texts n.0 h.1)
key_stays old new g (keys.Within n) h = ap keys.Within (g.texts n.0 h.1)
key_stays old new g k h = refl

-- steps were taken to write values, and perhaps the engine stopped then
pub advances_wrote : (h new : Held) (scope : Shown) (more : ℕ) → new ≡ record h { scope = scope; writes = add_up h.writes more } → Progress h new
advances_wrote h new scope more e = subst (Progress h) (sym e) (record { names = extends_refl h.names; begun = omega arith; within = λ b. b; limit = refl; writes = omega arith })

pub advances_stops : (h mid new : Held) (scope : Shown) (more : ℕ) (s : Option Stop) → mid ≡ record h { scope = scope; writes = add_up h.writes more } → new ≡ record mid { stop = s } → Progress h new
advances_stops h mid new scope more s e f = progress_then h mid new (advances_wrote h mid scope more e) (advances_stopped mid new s f)

-- names are added
asides_grown : (old new : Table) (shelf : Shelf) → Extends old new → (ss : List Source) → SourcesWithin (length old) ss → map (items_at new) (aside_of shelf ss) ≡ map (items_at old) (aside_of shelf ss)
asides_grown old new shelf g [] h = refl
asides_grown old new shelf g (Plain t ∷ ss) h = asides_grown old new shelf g ss (All-tail (SourceWithin (length old)) (Plain t) ss h)
asides_grown old new shelf g (Marked t ∷ ss) h = asides_grown old new shelf g ss (All-tail (SourceWithin (length old)) (Marked t) ss h)
asides_grown old new shelf g (File f ∷ ss) h = asides_grown old new shelf g ss (All-tail (SourceWithin (length old)) (File f) ss h)
asides_grown old new shelf g (Fence ∷ ss) h =
    let behind = All-tail (SourceWithin (length old)) Fence ss h in ap₂ (λ a b. a ∷ b) (rest_grown old new shelf g ss behind) (asides_grown old new shelf g ss behind)

kept_grown : (old new : Table) (o : Option TokenCode) → Extends old new → OptionWithin (TokenWithin (length old)) o → option_map (token_at new) o ≡ option_map (token_at old) o
kept_grown old new None g w = refl
kept_grown old new (Some t) g w = ap Some (token_kept old new g t w)

kept_more : (m n : ℕ) (o : Option TokenCode) → m ≤ n → OptionWithin (TokenWithin m) o → OptionWithin (TokenWithin n) o
kept_more m n None le w = tt
kept_more m n (Some t) le w = token_more m n le t w

pub names_state : (shelf : Shelf) (h : Held) (names : Table) → Sound h → Extends h.names names → state_of shelf (record h { names = names }) ≡ state_of shelf h
names_state shelf h names s g = λ i. record (state_of shelf h) {
  world = world_stays h.names names g (world_of h.scope) s.scope i;
  rest = rest_grown h.names names shelf g h.input.sources s.sources i;
  aside = asides_grown h.names names shelf g h.input.sources s.sources i;
  kept = kept_grown h.names names h.kept g s.kept i;
}

pub names_kept : (h : Held) (names : Table) → Sound h → Extends h.names names → Numbered names → Kept h (record h { names = names })
names_kept h names s g numbered = record {
  grows = g;
  sound = record {
    numbered = numbered;
    sources = sources_more (length h.names) (length names) g.longer h.input.sources s.sources;
    ready = s.ready;
    kept = kept_more (length h.names) (length names) h.kept g.longer s.kept;
    scope = world_more (length h.names) (length names) g.longer (world_of h.scope) s.scope;
    budget = s.budget;
  };
}

pub advances_names : (h new : Held) (names : Table) (s : Option Stop) → Extends h.names names → new ≡ record h { names = names; stop = s } → Progress h new
advances_names h new names s g e = subst (Progress h) (sym e) (record { names = g; begun = omega arith; within = λ b. b; limit = refl; writes = omega arith })

pub files_names : (h new : Held) (names : Table) (s : Option Stop) → new ≡ record h { names = names; stop = s } → SameFiles h new
files_names h new names s e = subst (SameFiles h) (sym e) (record { ids = refl; readers = refl })

-- tokens were put before the rest, or memory was refused
abbrev pub IsPut : (h new : Held) → (State → State) → Result (Unit {0}) Stop → Type 0
IsPut h new f r = MatchResult r (λ _. (shelf : Shelf) → state_of shelf new ≡ f (state_of shelf h)) (λ s. (s ≡ stop.NoMemory) × (new ≡ record h { stop = Some stop.NoMemory }))

pub advances_put : (h new : Held) (f : State → State) (r : Result (Unit {0}) Stop) → IsPut h new f r → OnOk r (new ≡ record h { input = new.input }) → Progress h new
advances_put h new f (Ok v) m e = subst (Progress h) (sym e) (record { names = extends_refl h.names; begun = omega arith; within = λ b. b; limit = refl; writes = omega arith })
advances_put h new f (Err s) m e = advances_stopped h new (Some stop.NoMemory) m.1

-- no step was taken, and the scope is as before
pub put_writes : (h new : Held) (f : State → State) (r : Result (Unit {0}) Stop) → IsPut h new f r → OnOk r (new ≡ record h { input = new.input }) → (new.writes ≡ h.writes) × (new.scope ≡ h.scope)
put_writes h new f (Ok v) m e = (ap (λ (i : Held). i.writes) e, ap (λ (i : Held). i.scope) e)
put_writes h new f (Err s) m e = (ap (λ (i : Held). i.writes) m.1, ap (λ (i : Held). i.scope) m.1)

-- so many steps were taken for the values that a group gives back
pub end_few : (h mid new : Held) (scope : Shown) (steps saved : ℕ) → mid ≡ record h { scope = scope; writes = add_up h.writes steps } → new.writes ≡ mid.writes → steps ≤ 0 + saved → new.writes ≤ h.writes + saved
end_few h mid new scope steps saved e w few = let m : mid.writes ≡ add_up h.writes steps = ap (λ (i : Held). i.writes) e in omega (arith, w, m, few)

pub end_many : (h mid new : Held) (scope : Shown) (steps : ℕ) → mid ≡ record h { scope = scope; writes = add_up h.writes steps } → (new.writes ≡ mid.writes) × (new.scope ≡ mid.scope) → RoseByChanges (world_of h.scope) (world_of scope) 0 steps → RoseByChanges (world_of h.scope) (world_of new.scope) h.writes new.writes
end_many h mid new scope steps e w many = λ keys different changed.
    let m : mid.writes ≡ add_up h.writes steps = ap (λ (i : Held). i.writes) e in
    let s : new.scope ≡ scope = w.1 ∙ ap (λ (i : Held). i.scope) e in
    let few = many keys different (subst (λ (x : Shown). All (λ k. (world_of h.scope).top k ≢ (world_of x).top k) keys) s changed) in
    omega (arith, w.0, m, few)

pub put_local : (h new : Held) (f g : State → State) (r : Result (Unit {0}) Stop) → ((shelf : Shelf) → g (state_of shelf h) ≡ f (state_of shelf h)) → IsPut h new f r → Local (change g) r h new
put_local h new f g (Ok v) e m = λ shelf. ap (λ s. Done tt s nothing) (e shelf ∙ sym (m shelf))
put_local h new f g (Err s) e m = λ shelf. subst (λ x. Silent (change g (state_of shelf h)) (Err x) (state_of shelf new)) (sym m.0) tt

-- the world changes, and its names are given
pub scope_kept : (h new : Held) (scope : Shown) (writes : ℕ) → Sound h → WorldCovered (length h.names) (world_of scope) → new ≡ record h { scope = scope; writes = writes } → Kept h new
scope_kept h new scope writes sound covered is = subst (Kept h) (sym is) (record { grows = extends_refl h.names; sound = record { numbered = sound.numbered; sources = sound.sources; ready = sound.ready; kept = sound.kept; scope = covered; budget = sound.budget } })

-- a changed world leaves as much to read as is kept for after its groups
pub files_wrote : (h new : Held) (scope : Shown) (writes : ℕ) → new ≡ record h { scope = scope; writes = writes } → SameFiles h new
files_wrote h new scope writes e = subst (SameFiles h) (sym e) (record { ids = refl; readers = refl })

pub puts_scope : (k : ℕ) (h new : Held) (scope : Shown) (writes : ℕ) → kept_after (world_of scope).groups ≤ kept_after (world_of h.scope).groups + k → new ≡ record h { scope = scope; writes = writes } → Puts k h new
puts_scope k h new scope writes le e = subst (Puts k h) (sym e) (record { limit = refl; nesting = refl; begun = refl; room = λ shelf. omega arith })

pub set_room : (h : Held) (scope : Shown) (global : Bool) (k : KeyCode) (v : ValueCode) → world_of scope ≡ set_by global k v (world_of h.scope) → kept_after (world_of scope).groups ≤ kept_after (world_of h.scope).groups + 0
set_room h scope true k v e = let same = ap (λ w. kept_after w.groups) e in let below = below_room same_key k v (world_of h.scope).groups in omega arith
set_room h scope false k v e = let same = ap (λ w. kept_after w.groups) e in omega arith

pub begun_room : (h : Held) (scope : Shown) (kind : KindCode) → world_of scope ≡ begin_group kind (world_of h.scope) → kept_after (world_of scope).groups ≤ kept_after (world_of h.scope).groups + 0
begun_room h scope kind e =
    let same = ap (λ w. kept_after w.groups) e in
    let one = sum_by-cons (λ g. length g.after) (record { kind = kind; after = []; below = (world_of h.scope).top }) (world_of h.scope).groups in
    omega (arith, one)

pub after_room : (h : Held) (scope : Shown) (t : TokenCode) → world_of scope ≡ keep_after t (world_of h.scope) → kept_after (world_of scope).groups ≤ kept_after (world_of h.scope).groups + 1
after_room h scope t e = let same = ap (λ w. kept_after w.groups) e in let more = keep_room t (world_of h.scope).groups in omega arith

-- a group begins
pub begun_state : (shelf : Shelf) (h : Held) (scope : Shown) (kind : KindCode) → world_of scope ≡ begin_group kind (world_of h.scope) → begin_kind (kind_at h.names kind) (state_of shelf h) ≡ Done tt (state_of shelf (record h { scope = scope })) nothing
begun_state shelf h scope kind e =
    ap (λ w. Done tt (record (state_of shelf h) { world = w }) nothing) (sym (ap (world_at h.names) e ∙ world_begin h.names kind (world_of h.scope)))

pub begun_covered : (h : Held) (scope : Shown) (kind : KindCode) → Sound h → KindWithin (length h.names) kind → world_of scope ≡ begin_group kind (world_of h.scope) → WorldCovered (length h.names) (world_of scope)
begun_covered h scope kind sound given e = subst (WorldCovered (length h.names)) (sym e) (begin_covered (length h.names) kind given (world_of h.scope) sound.scope)

-- a token is kept for after a group
pub after_state : (shelf : Shelf) (h : Held) (scope : Shown) (t : TokenCode) → world_of scope ≡ keep_after t (world_of h.scope) → change (read_after (token_at h.names t)) (state_of shelf h) ≡ Done tt (state_of shelf (record h { scope = scope })) nothing
after_state shelf h scope t e =
    ap (λ w. Done tt (record (state_of shelf h) { world = w }) nothing) (sym (ap (world_at h.names) e ∙ world_keep_after h.names t (world_of h.scope)))

pub after_covered : (h : Held) (scope : Shown) (t : TokenCode) → Sound h → TokenWithin (length h.names) t → world_of scope ≡ keep_after t (world_of h.scope) → WorldCovered (length h.names) (world_of scope)
after_covered h scope t sound given e = subst (WorldCovered (length h.names)) (sym e) (keep_after_covered (length h.names) t given (world_of h.scope) sound.scope)

-- a key is given a value
set_world : (shelf : Shelf) (h : Held) (scope : Shown) (global : Bool) (k : KeyCode) (v : ValueCode) → Sound h → KeyWithin (length h.names) k → world_of scope ≡ set_by global k v (world_of h.scope)
    → set global (key_at h.names k) (value_at h.names v) (state_of shelf h) ≡ state_of shelf (record h { scope = scope })
set_world shelf h scope true k v sound within e =
    ap (λ w. record (state_of shelf h) { world = w }) (sym (ap (world_at h.names) e ∙ world_set_global h.names sound.numbered k within v (world_of h.scope)))
set_world shelf h scope false k v sound within e =
    ap (λ w. record (state_of shelf h) { world = w }) (sym (ap (world_at h.names) e ∙ world_set_local h.names sound.numbered k within v (world_of h.scope)))

pub set_state : (shelf : Shelf) (h new : Held) (scope : Shown) (global : Bool) (k : KeyCode) (v : ValueCode) (writes : ℕ) → Sound h → KeyWithin (length h.names) k → world_of scope ≡ set_by global k v (world_of h.scope)
    → new ≡ record h { scope = scope; writes = writes } → change (set global (key_at h.names k) (value_at h.names v)) (state_of shelf h) ≡ Done tt (state_of shelf new) nothing
set_state shelf h new scope global k v writes sound within e is =
    ap (λ s. Done tt s nothing) (set_world shelf h scope global k v sound within e) ∙ ap (λ (n : Held). Done tt (state_of shelf n) nothing) (sym is)

pub set_covered : (h : Held) (scope : Shown) (global : Bool) (k : KeyCode) (v : ValueCode) → Sound h → KeyWithin (length h.names) k → ValueWithin (length h.names) v
    → world_of scope ≡ set_by global k v (world_of h.scope) → WorldCovered (length h.names) (world_of scope)
set_covered h scope true k v sound within given e = subst (WorldCovered (length h.names)) (sym e) (set_global_covered (length h.names) k v within given (world_of h.scope) sound.scope)
set_covered h scope false k v sound within given e = subst (WorldCovered (length h.names)) (sym e) (set_local_covered (length h.names) k v within given (world_of h.scope) sound.scope)

-- a group ends, or doesn't
module _ (shelf : Shelf) (h : Held) (scope : Shown) (kind : KindCode) (answer : Result (List TokenCode) (EndFault KindCode)) (sound : Sound h) (given : KindWithin (length h.names) kind)
    (e : (world_of scope, answer) ≡ end_group same_kind kind (world_of h.scope)) where
  pub ended_is : end_kind (kind_at h.names kind) (state_of shelf h) ≡ ended (world_at h.names (world_of scope), answer_at h.names answer) (state_of shelf h)
  ended_is = ap (λ x. ended x (state_of shelf h)) (sym (world_end h.names sound.numbered kind given (world_of h.scope) (world_of scope) sound.scope answer e))

-- its after-tokens are put back
pub end_puts : (h mid new : Held) (scope : Shown) (kind : KindCode) (after : List TokenCode) (writes : ℕ) (r : Result (Unit {0}) Stop) → Sound h → KindWithin (length h.names) kind
    → (world_of scope, Ok after) ≡ end_group same_kind kind (world_of h.scope) → mid ≡ record h { scope = scope; writes = writes } → IsPut mid new (put (tokens_at mid.names after)) r → Local (end_kind (kind_at h.names kind)) r h new
end_puts h mid new scope kind after writes (Ok v) sound given e is m = λ shelf.
    let Q : Held → Type 0 = λ n. state_of shelf new ≡ put (tokens_at n.names after) (state_of shelf n) in
    ended_is shelf h scope kind (Ok after) sound given e ∙ ap (λ (s : State). Done tt s nothing) (sym (subst Q is (m shelf)))
end_puts h mid new scope kind after writes (Err s) sound given e is m = λ shelf. subst (λ x. Silent (end_kind (kind_at h.names kind) (state_of shelf h)) (Err x) (state_of shelf new)) (sym m.0) tt

-- the groups after it have what they had, and what was kept for after it comes next
pub puts_ended : (h mid new : Held) (scope : Shown) (kind : KindCode) (after : List TokenCode) (writes : ℕ) → (world_of scope, Ok after) ≡ end_group same_kind kind (world_of h.scope) → mid ≡ record h { scope = scope; writes = writes } → Puts (length after) mid new
    → Puts 0 h new
puts_ended h mid new scope kind after writes e is p =
    let Q : Held → Type 0 = λ m. Puts (length after) m new → Puts 0 h new in
    let same = ended_room same_kind kind (world_of h.scope) (world_of scope) after e in
    subst Q (sym is) (λ q. record { limit = q.limit; nesting = q.nesting; begun = q.begun; room = λ shelf. let r = q.room shelf in omega arith }) p

-- or it can't end
code_same : (texts : Table) (f : EndFault KindCode) → end_code (fault_at (key_back texts) (value_at texts) (token_at texts) (kind_at texts) f) ≡ end_code f
code_same texts NoGroup = refl
code_same texts (WrongGroup kind) = refl

pub end_stops : (shelf : Shelf) (h mid new : Held) (scope : Shown) (kind : KindCode) (writes : ℕ) (s : Stop) (f : EndFault KindCode) → Sound h → KindWithin (length h.names) kind → (world_of scope, Err f) ≡ end_group same_kind kind (world_of h.scope)
    → mid ≡ record h { scope = scope; writes = writes } → IsFaultAt (end_code f) [] (place_of mid) s → Silent (end_kind (kind_at h.names kind) (state_of shelf h)) (Err s) (state_of shelf new)
end_stops shelf h mid new scope kind writes s f sound given e is fault =
    silent_fault (end_kind (kind_at h.names kind) (state_of shelf h)) (end_code f) [] (place_of h) s (state_of shelf new)
    (ended_is shelf h scope kind (Err f) sound given e ∙ ap (λ c. Ended (Tex (fault_here c [] (place_of h))) nothing) (code_same h.names f))
    (subst (λ p. IsFaultAt (end_code f) [] p s) (ap place_of is) fault)

-- the kept token comes next
pub kept_none : (h : Held) → h.kept ≡ None → Local (change put_kept) (Ok tt) h h
kept_none h e = λ shelf. ap (λ o. Done tt (put_kept_of (option_map (token_at h.names) o) (state_of shelf h)) nothing) e

pub kept_some : (h mid new : Held) (t : TokenCode) (r : Result (Unit {0}) Stop) → h.kept ≡ Some t → mid ≡ record h { kept = None } → IsPut mid new (back (token_at mid.names t) false) r → Local (change put_kept) r h new
kept_some h mid new t (Ok v) e is m = λ shelf. ap (λ s. Done tt s nothing)
    (ap (λ o. put_kept_of (option_map (token_at h.names) o) (state_of shelf h)) e ∙ sym (ap (λ (n : Held). back (token_at n.names t) false (state_of shelf n)) is) ∙ sym (m shelf))
kept_some h mid new t (Err s) e is m = λ shelf. subst (λ x. Silent (change put_kept (state_of shelf h)) (Err x) (state_of shelf new)) (sym m.0) tt

pub puts_kept : (h mid new : Held) (t : TokenCode) → h.kept ≡ Some t → mid ≡ record h { kept = None } → Puts 1 mid new → Puts 0 h new
puts_kept h mid new t e is p =
    let Q : Held → Type 0 = λ m. Puts 1 m new → Puts 0 h new in
    let one = ap (λ o. length (option_to_list o)) e in
    subst Q (sym is) (λ q. record { limit = q.limit; nesting = q.nesting; begun = q.begun; room = λ shelf. let r = q.room shelf in omega (arith, one) }) p

pub kept_gone : (h mid : Held) → Sound h → mid ≡ record h { kept = None } → Sound mid
kept_gone h mid sound is = subst Sound (sym is) (record { numbered = sound.numbered; sources = sound.sources; ready = sound.ready; kept = tt; scope = sound.scope; budget = sound.budget })

pub gone_kept : (h mid : Held) → Sound h → mid ≡ record h { kept = None } → Kept h mid
gone_kept h mid sound is = record { grows = subst (λ (m : Held). Extends h.names m.names) (sym is) (extends_refl h.names); sound = kept_gone h mid sound is }

-- a token is kept
pub files_set : (h mid : Held) (t : Option TokenCode) → mid ≡ record h { kept = t } → SameFiles h mid
files_set h mid t is = subst (SameFiles h) (sym is) (record { ids = refl; readers = refl })

pub puts_set : (h mid : Held) (t : TokenCode) → mid ≡ record h { kept = Some t } → Puts 1 h mid
puts_set h mid t is = subst (Puts 1 h) (sym is) (record { limit = refl; nesting = refl; begun = refl; room = λ shelf. omega arith })

pub kept_set : (h mid : Held) (t : TokenCode) → Sound h → TokenWithin (length h.names) t → mid ≡ record h { kept = Some t } → Kept h mid
kept_set h mid t sound given is = subst (Kept h) (sym is) (record { grows = extends_refl h.names; sound = record { numbered = sound.numbered; sources = sound.sources; ready = sound.ready; kept = given; scope = sound.scope; budget = sound.budget } })

pub advances_set : (h mid : Held) (t : Option TokenCode) → mid ≡ record h { kept = t } → Progress h mid
advances_set h mid t is = subst (Progress h) (sym is) (record { names = extends_refl h.names; begun = omega arith; within = λ b. b; limit = refl; writes = omega arith })

pub kept_within : (h : Held) (t : TokenCode) → Sound h → h.kept ≡ Some t → TokenWithin (length h.names) t
kept_within h t sound e = subst (OptionWithin (TokenWithin (length h.names))) e sound.kept

pub end_keeps : (h : Held) (scope : Shown) (kind : KindCode) (after : List TokenCode) → Sound h → (world_of scope, Ok after) ≡ end_group same_kind kind (world_of h.scope)
    → WorldCovered (length h.names) (world_of scope) × TokensWithin (length h.names) after
end_keeps h scope kind after sound e = end_covered (length h.names) kind (world_of h.scope) (world_of scope) (Ok after) e sound.scope
