-- A name is made of characters: the table of names grows, and the name may get a meaning.
use Rattle.std.proofs.Common.{◌≡◌, ◌≤◌, ℕ, true, if◌then◌else◌, zero, suc, List, [], ◌∷◌, length, Result, Ok, Err, refl, sym, ap, ◌∙◌, arith}
use Rattle.std.specs.Prelude.{sum_by}
use Rattle.std.specs.Result.{OnOk, IfOk}
use Rattle.texml_base.specs.Outside.{Shelf}
use Rattle.texml_token.specs.Token.{Named}
use Rattle.texml_token.specs.Numbers.{Table, Extends, Numbered, text_at, name_at, tokens_at}
use Rattle.texml_token.specs.declared.tokens.Token.{Token as TokenCode}
use Rattle.texml_token.specs.declared.tokens.Token.TheVariants as tokens
use Rattle.texml_token.specs.declared.tokens.Name.{Name as NameCode}
use Rattle.texml_scope.specs.Groups.{set_local}
use Rattle.texml_scope.specs.Shown.{Shown, ValueCode, world_of}
use Rattle.texml_scope.specs.Numbers.{value_at, world_at, WorldCovered}
use Rattle.texml_scope.specs.Values.{meaning_in, same_key}
use Rattle.texml_scope.specs.Texts.{World, key_eq}
use Rattle.texml_scope.specs.declared.builtins.TheConstants.{RELAX}
use Rattle.texml_scope.specs.declared.values.KeyOf.TheVariants.{Name}
use Rattle.texml_scope.specs.declared.values.ValueOf.TheVariants.{Means}
use Rattle.texml_scope.specs.declared.values.MeaningOf.TheVariants.{Undefined, Builtin}
use Rattle.texml_scope.proofs.Texts.{world_set_local, world_stays}
use Rattle.texml_input.proofs.Sources.{sources_more, rest_grown}
use Rattle.texml_expand.specs.State.{State}
use Rattle.texml_expand.specs.Names.{is_undefined, with_name, named}
use Rattle.texml_expand.specs.Fronts.{lacks_meaning}
use Rattle.texml_expand.specs.Held.{Held, world_in, state_of, Sound, Puts}
use Rattle.texml_expand.proofs.Fronts.{taken_kept, taken_state}

-- by texts a value has no meaning as it has none by numbers
pub lacks_same : (texts : Table) (v : ValueCode) → lacks_meaning v ≡ is_undefined (meaning_in (value_at texts v))
lacks_same texts (Means Undefined) = refl
lacks_same texts (Means m) = refl
lacks_same texts v = refl

undefined_named : (text : List ℕ) (w : World) → is_undefined (meaning_in (w.top (Name text))) ≡ true → set_local key_eq (Name text) (Means (Builtin RELAX)) w ≡ with_name text w
undefined_named text w e = ap (λ b. if b then set_local key_eq (Name text) (Means (Builtin RELAX)) w else w) (sym e)

-- a name without a meaning gets one
pub relaxed : (h : Held) → Numbered h.names → (n : NameCode) → 1 ≤ n.0 → n.0 ≤ length h.names → is_undefined (meaning_in ((world_in h).top (Name (text_at h.names n.0)))) ≡ true
    → world_at h.names (set_local same_key (Name n) (Means (Builtin RELAX)) (world_of h.scope)) ≡ with_name (text_at h.names n.0) (world_in h)
relaxed h numbered n given within e = world_set_local h.names numbered (Name n) (given, within) (Means (Builtin RELAX)) (world_of h.scope) ∙ undefined_named (text_at h.names n.0) (world_in h) e

-- the state where names were only added
pub grown_state : (h : Held) (names : Table) (shelf : Shelf) → Sound h → Extends h.names names → state_of shelf (record h { names = names }) ≡ state_of shelf h
grown_state h names shelf s g =
    sym (taken_state h names h.input shelf shelf s g refl refl) ∙ ap (λ r. record (state_of shelf h) { rest = r }) (rest_grown h.names names shelf g h.input.sources s.sources)

-- it stays sound
pub named_sound : (h : Held) (names : Table) (scope : Shown) (writes : ℕ) → Sound h → Extends h.names names → Numbered names → WorldCovered (length names) (world_of scope) → Sound (record h { names = names; scope = scope; writes = writes })
named_sound h names scope writes s g numbered covered =
    let k = (taken_kept h names h.input s g numbered (sources_more (length h.names) (length names) g.longer h.input.sources s.sources) s.ready).sound in
    record { numbered = numbered; sources = k.sources; ready = k.ready; kept = k.kept; scope = covered; budget = k.budget }

pub grown_sound : (h : Held) (names : Table) → Sound h → Extends h.names names → Numbered names → Sound (record h { names = names })
grown_sound h names s g numbered = (taken_kept h names h.input s g numbered (sources_more (length h.names) (length names) g.longer h.input.sources s.sources) s.ready).sound

-- a name of this text has a meaning now
pub named_state : (h : Held) (names : Table) (scope : Shown) (writes : ℕ) (text : List ℕ) (shelf : Shelf) → Sound h → Extends h.names names → world_at names (world_of scope) ≡ with_name text (world_in h)
    → state_of shelf (record h { names = names; scope = scope; writes = writes }) ≡ named text (state_of shelf h)
named_state h names scope writes text shelf s g e =
    ap (λ w. record (state_of shelf (record h { names = names })) { world = w }) e ∙ ap (λ (x : State). record x { world = with_name text (world_in h) }) (grown_state h names shelf s g)

-- and no more is left to read
pub named_puts : (h : Held) (names : Table) (scope : Shown) (writes : ℕ) → (world_of scope).groups ≡ (world_of h.scope).groups → Puts 0 h (record h { names = names; scope = scope; writes = writes })
named_puts h names scope writes e = record {
  limit = refl;
  nesting = refl;
  begun = refl;
  room = λ shelf. let same = ap (λ groups. sum_by (λ g. length g.after) groups) e in omega (arith, same);
}

-- what names mean is the same where names were only added
pub grown_world : (h : Held) (names : Table) → Sound h → Extends h.names names → world_in (record h { names = names }) ≡ world_in h
grown_world h names s g = world_stays h.names names g (world_of h.scope) s.scope

-- a name that was given isn't the fixed \relax
name_given : (texts : Table) (n : ℕ) → 1 ≤ n → name_at texts n ≡ Named (text_at texts n)
name_given texts zero le = absurd (omega (arith, le))
name_given texts (suc n) le = refl

-- the name alone
pub name_alone : {E : Type 0} (r : Result (List TokenCode) E) (texts : Table) (name : NameCode) (text : List ℕ) → IfOk r (λ list. list ≡ tokens.Named name ∷ []) → 1 ≤ name.0 → text_at texts name.0 ≡ text
    → IfOk r (λ list. tokens_at texts list ≡ Named text ∷ [])
name_alone (Ok list) texts name text e given is = ap (tokens_at texts) e ∙ ap (λ t. t ∷ []) (name_given texts name.0 given ∙ ap Named is)
name_alone (Err e) texts name text is given same = tt

pub where_ok : {A E : Type 0} (r : Result A E) (P : Type 0) → P → OnOk r P
where_ok (Ok v) P p = p
where_ok (Err e) P p = tt
