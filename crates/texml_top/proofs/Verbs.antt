-- What `\verb` reads has one answer, and leaves no more to be read.
use Rattle.std.proofs.Common.{◌≡◌, ◌≢◌, ◌==◌, ◌+◌, ◌++◌, eq-eqb, if◌then◌else◌, Ok, ◌<◌, ◌≤◌, ℕ, List, [], ◌∷◌, length, get_or, take, fold, pos, Option, Some, None, Result, Err, refl, sym, ap, ◌∙◌, subst, arith}
use Rattle.std.specs.Char.{IsScalar, encode_utf8}
use Rattle.std.specs.List.{sum_by}
use Rattle.std.specs.Result.{OnOk}
use Rattle.std.proofs.lemmas.Bool.{ne_eqb}
use Rattle.std.proofs.lemmas.List.{take_more, take_all}
use Rattle.std.proofs.lemmas.List.Sums.{fold-append}
use Rattle.texml_base.specs.Outside.{Shelf}
use Rattle.texml_token.specs.Token.{Token, Char, Active}
use Rattle.texml_token.specs.declared.category.TheConstants.{SPACE, OTHER}
use Rattle.texml_token.specs.declared.fault_code.TheConstants.{FILE_ENDED, MISPLACED}
use Rattle.texml_scope.specs.declared.values.KeyOf.TheVariants as keys
use Rattle.texml_scope.specs.declared.values.ValueOf.TheVariants as values
use Rattle.texml_scope.specs.Groups.{set_local}
use Rattle.texml_scope.specs.Values.{same_key}
use Rattle.texml_scope.specs.Texts.{World}
use Rattle.texml_scope.specs.Shown.{Shown, world_of}
use Rattle.texml_scope.specs.Numbers.{world_at, WorldCovered}
use Rattle.texml_scope.proofs.Texts.{world_set_local}
use Rattle.texml_scope.proofs.Covering.{set_local_covered}
use Rattle.texml_scope.specs.declared.values.KindOf.TheVariants.{Begin}
use Rattle.texml_expand.specs.declared.stop.Stop.{Stop}
use Rattle.texml_expand.specs.State.{State, Done, nothing, give, change, chain}
use Rattle.texml_watch.specs.declared.record.Record.{Record}
use Rattle.texml_expand.specs.Contract.{Outside, Local}
use Rattle.texml_expand.specs.Held.{Held, state_of, Sound, Kept, Owns, Puts}
use Rattle.texml_expand.proofs.Fronts.{kept_then}
use Rattle.texml_assign.specs.Doing.{Does}
use Rattle.texml_assign.specs.Loop.{ByDepth, Next, On, Over}
use Rattle.texml_assign.specs.Operands.{token_or_end}
use Rattle.texml_assign.specs.Sets.{begin_kind, end_kind}
use Rattle.texml_assign.proofs.Readings.{Lawful, Plain, lawful_plain, lawful_then, plain_give, plain_fail, plain_if, plain_then, plain_change}
use Rattle.texml_assign.proofs.Doing.{does_then, does_stop, does_judge, does_now, puts_then}
use Rattle.texml_assign.proofs.Looping.{LawfulLoop, lawful_loop}
use Rattle.texml_assign.proofs.Parts.{same_room, plain_token_or_end, spaces_laws, plain_begin, plain_end}
use Rattle.texml_top.specs.Verb.{as_other, all_other, char_of, char_in, next_char, behind_star, delimiter, char_turn, text_turn, text_loop, text_to, verb_text, specials, begin_verb, end_verb, verb}

pub plain_char_of : (t : Token) → Plain (char_of t)
plain_char_of (Char c category) = plain_if (category == SPACE) _ _ (plain_fail _ FILE_ENDED []) (plain_give c)
plain_char_of (Active c) = plain_give c
plain_char_of t = plain_fail _ MISPLACED []

pub plain_char_in : (o : Option Token) → Plain (char_in o)
plain_char_in None = plain_fail _ FILE_ENDED []
plain_char_in (Some t) = plain_char_of t

pub plain_next_char : Plain next_char
plain_next_char = plain_then token_or_end char_in plain_token_or_end plain_char_in

pub plain_behind_star : (c : ℕ) → Plain (behind_star c)
plain_behind_star c = plain_if (c == 42) next_char (give c) plain_next_char (plain_give c)

pub plain_delimiter : Plain delimiter
plain_delimiter = plain_then next_char behind_star plain_next_char plain_behind_star

pub lawful_text_turn : (d : ℕ) (seen : List ℕ) (t : Token) → Lawful (text_turn d seen t)
lawful_text_turn d seen t = lawful_plain (λ s. text_turn d seen t 0 s) (plain_then (char_of t) (char_turn d seen) (plain_char_of t) (λ c. plain_give _))

pub text_laws : (d : ℕ) → LawfulLoop (text_loop d)
text_laws d = record {
  source = lawful_plain token_or_end plain_token_or_end;
  lowers = spaces_laws.lowers;
  turn = lawful_text_turn d;
  end = λ seen. plain_fail _ FILE_ENDED [];
}

pub lawful_text_to : (d : ℕ) → Lawful (text_to d)
lawful_text_to d = lawful_loop (text_loop d) (text_laws d) []

pub lawful_verb_text : Lawful verb_text
lawful_verb_text = lawful_then (λ n. delimiter) text_to (lawful_plain delimiter plain_delimiter) lawful_text_to

-- categories are no tokens
groups_stay : (codes : List ℕ) (w : World) → (fold as_other w codes).groups ≡ w.groups
groups_stay [] w = refl
groups_stay (c ∷ cs) w = groups_stay cs (as_other w c)

pub plain_others : (codes : List ℕ) → Plain (change (all_other codes))
plain_others codes = plain_change (all_other codes) (λ s. same_room s (all_other codes s) refl refl refl (let e = ap (sum_by (λ g. length g.after)) (groups_stay codes s.world) in omega (arith, e)))

pub plain_begin_verb : Plain begin_verb
plain_begin_verb = plain_then (begin_kind Begin) (λ _. change (all_other specials)) (plain_begin Begin) (λ _. plain_others specials)

pub plain_end_verb : (text : List ℕ) → Plain (end_verb text)
plain_end_verb text = plain_then (end_kind Begin) (λ _. give text) (plain_end Begin) (λ _. plain_give text)

-- what follows the beginning
abbrev pub behind_begin : Unit {0} → ByDepth (List ℕ)
behind_begin u n s = chain (verb_text n s) end_verb

pub lawful_behind_begin : (u : Unit {0}) → Lawful (behind_begin u)
lawful_behind_begin u = lawful_then verb_text (λ text n. end_verb text) lawful_verb_text (λ text. lawful_plain (end_verb text) (plain_end_verb text))

pub lawful_verb : Lawful verb
lawful_verb = lawful_then (λ n. begin_verb) behind_begin (lawful_plain begin_verb plain_begin_verb) lawful_behind_begin

-- In the code

-- a character is made an other
pub other_state : (shelf : Shelf) (h new : Held) (scope : Shown) (c writes : ℕ) → Sound h → IsScalar c → world_of scope ≡ set_local same_key (keys.Cat c) (values.Number (pos OTHER)) (world_of h.scope) → new ≡ record h { scope = scope; writes = writes }
    → change (all_other (c ∷ [])) (state_of shelf h) ≡ Done tt (state_of shelf new) nothing
other_state shelf h new scope c writes sound scalar e is =
    ap (λ w. Done tt (record (state_of shelf h) { world = w }) nothing) (sym (ap (world_at h.names) e ∙ world_set_local h.names sound.numbered (keys.Cat c) scalar (values.Number (pos OTHER)) (world_of h.scope)))
    ∙ ap (λ (n : Held). Done tt (state_of shelf n) nothing) (sym is)

pub other_covered : (h : Held) (scope : Shown) (c : ℕ) → Sound h → IsScalar c → world_of scope ≡ set_local same_key (keys.Cat c) (values.Number (pos OTHER)) (world_of h.scope) → WorldCovered (length h.names) (world_of scope)
other_covered h scope c sound scalar e = subst (WorldCovered (length h.names)) (sym e) (set_local_covered (length h.names) (keys.Cat c) (values.Number (pos OTHER)) scalar tt (world_of h.scope) sound.scope)

-- one more
pub others_more : (cs : List ℕ) (i c : ℕ) (first now next : State) (u : Unit {0}) → i < length cs → c ≡ get_or cs i c → now ≡ all_other (take i cs) first → change (all_other (c ∷ [])) now ≡ Done u next nothing → next ≡ all_other (take (i + 1) cs) first
others_more cs i c first now next u l here e is =
    let step : all_other (c ∷ []) now ≡ next = cc in
    sym step ∙ ap (all_other (c ∷ [])) e
    ∙ ap (λ w. record first { world = w }) (sym (fold-append as_other first.world (take i cs) (c ∷ []))) ∙ ap (λ l. all_other l first) (ap (λ x. take i cs ++ x ∷ []) here ∙ sym (take_more cs i c l))

pub others_all : (cs : List ℕ) (i : ℕ) (first now : State) → length cs ≤ i → now ≡ all_other (take i cs) first → change (all_other cs) first ≡ Done tt now nothing
others_all cs i first now l e = ap (λ s. Done tt s nothing) (sym (e ∙ ap (λ x. all_other x first) (take_all i cs l)))

pub keeps_behind : {A : Type 0} (r : Result A Stop) (h i j : Held) → Kept h i → OnOk r (Kept i j) → OnOk r (Kept h j)
keeps_behind (Ok v) h i j g k = kept_then h i j g k
keeps_behind (Err e) h i j g k = tt

pub puts_behind : {A : Type 0} (r : Result A Stop) (h i j : Held) → Puts 0 h i → OnOk r (Puts 0 i j) → OnOk r (Puts 0 h j)
puts_behind (Ok v) h i j p q = puts_then p q
puts_behind (Err e) h i j p q = tt

-- a character is the delimiter, or goes to the text
pub char_over : (d : ℕ) (seen : List ℕ) (c : ℕ) (s : State) → c ≡ d → char_turn d seen c s ≡ Done (Over seen) s nothing
char_over d seen c s e = ap (λ b. Done (if b then Over seen else On (seen ++ encode_utf8 c)) s nothing) (eq-eqb c d e)

pub char_on : (d : ℕ) (seen more : List ℕ) (c : ℕ) (s : State) → c ≢ d → more ≡ seen ++ encode_utf8 c → char_turn d seen c s ≡ Done (On more) s nothing
char_on d seen more c s ne e = ap (λ b. Done (if b then Over seen else On (seen ++ encode_utf8 c)) s nothing) (ne_eqb c d ne) ∙ ap (λ l. Done (On l) s nothing) (sym e)

-- a turn of the loop, by the character of its token
module _ {T : Type 0} (hear part : T → Record → T → Type 0) where
  pub turn_does : (d : ℕ) (seen : List ℕ) (t : Token) (c : ℕ) (next : Next (List ℕ) (List ℕ)) (mid far : Held) (x : Outside) (a : T) → Owns x.shelf mid → Local (char_of t) (Ok c) mid far → far.stop ≡ None → Kept mid far
      → far ≡ record mid { stop = far.stop } → ((shelf : Shelf) → char_turn d seen c (state_of shelf far) ≡ Done next (state_of shelf far) nothing) → Does hear part (text_turn d seen t) (Ok next) mid far x x a a
  turn_does d seen t c next mid far x a owns gives running keeps is e =
      let first = does_judge hear part (char_of t) (plain_char_of t) (Ok c) mid far x a owns gives running keeps is in
      does_then hear part (λ n. char_of t) (λ c n. char_turn d seen c) (lawful_plain (char_of t) (plain_char_of t)) (λ c. lawful_plain (char_turn d seen c) (plain_give _)) c (Ok next) mid far far x x x a a a first
      (does_now hear part (char_turn d seen c) (plain_give _) next far x a keeps.sound first.holds.owns running e)

  pub turn_ends : (d : ℕ) (seen : List ℕ) (t : Token) (e : Stop) (mid far : Held) (x : Outside) (a : T) → Sound mid → Owns x.shelf mid → Local {A = ℕ} (char_of t) (Err e) mid far → far.stop ≡ Some e
      → far ≡ record mid { stop = far.stop } → Does hear part (text_turn d seen t) (Err e) mid far x x a a
  turn_ends d seen t e mid far x a sound owns gives stopped is =
      does_stop hear part (λ n. char_of t) (λ c n. char_turn d seen c) (lawful_plain (char_of t) (plain_char_of t)) (λ c. lawful_plain (char_turn d seen c) (plain_give _)) e mid far x x a a sound
      (does_judge hear part (char_of t) (plain_char_of t) (Err e) mid far x a owns gives stopped tt is)
