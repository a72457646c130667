-- What holds of every content model.
use Rattle.std.proofs.Common.{arith, ◌≡◌, ◌∙◌, ap, sym, refl, subst, ℕ, zero, suc, ◌+◌, ◌<◌, ◌≤◌, ◌&&◌, ◌||◌, not, Bool, true, false, IsTrue, List, [], ◌∷◌, length, map, get_or, cond, nat_lt, Option, None, Some, unwrap_or}
use Rattle.std.specs.Prelude.{IsSome, codes}
use Rattle.std.proofs.lemmas.Bool.Decides.{nat_tests}
use Rattle.std.proofs.lemmas.List.Elements.{All-map}
use Rattle.std.proofs.lemmas.List.Sums.{AllPass-from_list_all}
use Rattle.std.specs.Option.{option_map_or}
use Rattle.std.specs.List.{All, slice_get, list_any, list_all, position_or_len}
use Rattle.texml_token.specs.Token.{text_eq}
use Rattle.texml_tree.specs.declared.table.ElementLine.{ElementLine}
use Rattle.texml_tree.specs.declared.table.Elements.{Elements}
use Rattle.texml_model.specs.Chain.{Leads, chain_between}
use Rattle.texml_model.specs.Rules.{flags_of, Sound, VoidIsEmpty, line_or, lists, held, attr_number, attrs_of, holding_in, rules_of, each_once, is_empty, names_of, IsContentModel}
use Rattle.texml_model.proofs.First.{between_leads}

pub rules_sound : (t : Elements) → Sound (rules_of t)
unfolding rules_of
rules_sound t p child chain h = between_leads (holding_in t) p child chain h

-- a void line lists nothing and isn't flagged `text`

abbrev void_test : ElementLine → Bool
void_test line = not line.flags.void || (not line.flags.text && is_empty line.holds)

both_left : (a b : Bool) → (a && b) ≡ true → a ≡ true
both_left true b h = refl
both_left false b h = absurd (cc)

both_right : (a b : Bool) → (a && b) ≡ true → b ≡ true
both_right true b h = h
both_right false b h = absurd (cc)

line_passes : (test : ElementLine → Bool) (lines : List ElementLine) (e : ℕ) (line : ElementLine) → list_all test lines ≡ true → slice_get lines e ≡ Some line → test line ≡ true
line_passes test [] e line h g = absurd (cc)
line_passes test (l ∷ ls) zero line h g = let z : l ≡ line = cc in ap test (sym z) ∙ (both_left (test l) (list_all test ls) h)
line_passes test (l ∷ ls) (suc e) line h g = line_passes test ls e line (both_right (test l) (list_all test ls) h) g

void_by : (v t : Bool) (holds : List (List ℕ)) → (not v || (not t && is_empty holds)) ≡ true → v ≡ true → (t ≡ false) × (holds ≡ [])
void_by true true holds h e = absurd (cc)
void_by true false [] h e = (refl, refl)
void_by true false (x ∷ xs) h e = absurd (cc)
void_by false t holds h e = absurd (cc)

no_text_by : (o : Option ElementLine) → ((line : ElementLine) → o ≡ Some line → void_test line ≡ true) → option_map_or (λ line. line.flags.void) o false ≡ true → option_map_or (λ line. line.flags.text) o false ≡ false
no_text_by None k h = absurd (cc)
no_text_by (Some line) k h = (void_by line.flags.void line.flags.text line.holds (k line refl) h).0

nothing_listed : (o : Option ElementLine) → option_map_or (λ (child : ElementLine). false) o false ≡ false
nothing_listed None = refl
nothing_listed (Some line) = refl

no_child_by : (t : Elements) (e : ℕ) (o : Option ElementLine) → ((line : ElementLine) → o ≡ Some line → void_test line ≡ true) → option_map_or (λ line. line.flags.void) o false ≡ true → option_map_or (λ parent. line_or false (λ child. lists parent.holds child.name) t e) o false ≡ false
no_child_by t e None k h = refl
no_child_by t e (Some line) k h = ap (λ holds. line_or false (λ child. lists holds child.name) t e) ((void_by line.flags.void line.flags.text line.holds (k line refl) h).1) ∙ nothing_listed (slice_get t.lines e)

pub void_is_empty : (t : Elements) → IsContentModel t → VoidIsEmpty (rules_of t)
unfolding rules_of
void_is_empty t m = record {
  no_text = λ e h. no_text_by (slice_get t.lines e) (λ line g. line_passes void_test t.lines e line m.void g) h;
  no_child = λ e child h. no_child_by t child (slice_get t.lines e) (λ line g. line_passes void_test t.lines e line m.void g) h;
}

pub flags_is : (t : Elements) (e : ℕ) (line : ElementLine) → slice_get t.lines e ≡ Some line → line.flags ≡ flags_of (rules_of t) e
unfolding rules_of
flags_is t e line h = (λ i. record {
  text = option_map_or (λ (l : ElementLine). l.flags.text) (sym h i) false;
  block = option_map_or (λ (l : ElementLine). l.flags.block) (sym h i) false;
  opens = option_map_or (λ (l : ElementLine). l.flags.opens) (sym h i) false;
  closes = option_map_or (λ (l : ElementLine). l.flags.closes) (sym h i) false;
  id = option_map_or (λ (l : ElementLine). l.flags.id) (sym h i) false;
  toc = option_map_or (λ (l : ElementLine). l.flags.toc) (sym h i) false;
  void = option_map_or (λ (l : ElementLine). l.flags.void) (sym h i) false;
})

pub no_flags : (t : Elements) (e : ℕ) → slice_get t.lines e ≡ None → record { text = false; block = false; opens = false; closes = false; id = false; toc = false; void = false } ≡ flags_of (rules_of t) e
unfolding rules_of
no_flags t e h = (λ i. record {
  text = option_map_or (λ (l : ElementLine). l.flags.text) (sym h i) false;
  block = option_map_or (λ (l : ElementLine). l.flags.block) (sym h i) false;
  opens = option_map_or (λ (l : ElementLine). l.flags.opens) (sym h i) false;
  closes = option_map_or (λ (l : ElementLine). l.flags.closes) (sym h i) false;
  id = option_map_or (λ (l : ElementLine). l.flags.id) (sym h i) false;
  toc = option_map_or (λ (l : ElementLine). l.flags.toc) (sym h i) false;
  void = option_map_or (λ (l : ElementLine). l.flags.void) (sym h i) false;
})

-- the attributes of a line are in the list of attributes

found_within : {A : Type 0} (p : A → Bool) (xs : List A) → list_any p xs ≡ true → position_or_len p xs < length xs
found_within p [] h = absurd (cc)
found_within p (x ∷ xs) h = by (p x) (list_any p xs) (found_within p xs) h
  where
    by : (b c : Bool) → (c ≡ true → position_or_len p xs < length xs) → (b || c) ≡ true → cond (not b) (1 + position_or_len p xs) 0 < suc (length xs)
    by true c k e = omega arith
    by false c k e = let z = k e in omega (arith, z)

abbrev attrs_test : Elements → ElementLine → Bool
attrs_test t line = each_once line.attrs && list_all (lists t.attributes) line.attrs

known_by : (t : Elements) (o : Option ElementLine) → ((line : ElementLine) → o ≡ Some line → attrs_test t line ≡ true) → All (λ a. a < length t.attributes) (option_map_or (λ line. map (attr_number t) line.attrs) o [])
known_by t None k = λ i d l. absurd (omega arith)
known_by t (Some line) k = All-map (λ a. a < length t.attributes) (attr_number t) line.attrs
    (λ i d l. found_within (λ x. text_eq x (get_or line.attrs i d)) t.attributes (AllPass-from_list_all (lists t.attributes) line.attrs (both_right (each_once line.attrs) (list_all (lists t.attributes) line.attrs) (k line refl)) i d l))

pub attrs_known : (t : Elements) → IsContentModel t → (e : ℕ) → All (λ a. a < length t.attributes) (attrs_of t e)
attrs_known t m e = known_by t (slice_get t.lines e) (λ line g. line_passes (attrs_test t) t.lines e line m.attrs g)

pub attrs_seen : (t v : Elements) (e : ℕ) (seen : List ℕ) → t ≡ v → IsContentModel t → seen ≡ attrs_of t e → All (λ a. a < (rules_of v).attributes) seen
unfolding rules_of
attrs_seen t v e seen same m h = subst (λ (x : Elements). All (λ a. a < length x.attributes) seen) same (subst (All (λ a. a < length t.attributes)) (sym h) (attrs_known t m e))

-- the element `document` is there

any_named : (lines : List ElementLine) (name : List ℕ) → lists (map (λ line. line.name) lines) name ≡ list_any (λ line. text_eq line.name name) lines
any_named [] name = refl
any_named (l ∷ ls) name = ap (λ b. text_eq l.name name || b) (any_named ls name)

pub root_named : (t : Elements) → IsContentModel t → IsSome ((rules_of t).named (codes "document"))
unfolding rules_of
root_named t m =
    let within = found_within (λ (line : ElementLine). text_eq line.name (codes "document")) t.lines (sym (any_named t.lines (codes "document")) ∙ m.root) in
    let less : nat_lt (position_or_len (λ (line : ElementLine). text_eq line.name (codes "document")) t.lines) (length t.lines) ≡ true = grind (arith, nat_tests) in
    rw less refl
