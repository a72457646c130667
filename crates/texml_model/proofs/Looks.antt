-- What is kept for look-ups answers as the rules do.
use Rattle.std.proofs.Common.{arith, ◌≡◌, ◌⊎◌, ◌∙◌, ap, sym, refl, subst, inl, inr, ℕ, zero, suc, ◌+◌, ◌<◌, ◌≤◌, ◌&&◌, Bool, true, false, List, [], ◌∷◌, length, map, Option, None, Some, unwrap_or, Vec, Global, if◌then◌else◌}
use Rattle.std.specs.Option.{option_map, option_map_or, option_or, option_and_then}
use Rattle.std.specs.List.{slice_get, range_with_len}
use Rattle.std.proofs.lemmas.List.{length-map, get_or_past}
use Rattle.std.proofs.lemmas.Option.{slice_get-map, slice_get_past, slice_get_within, slice_get-get_or}
use Rattle.std.proofs.lemmas.List.FromFn.{get_or-map-range_with_len}
use Rattle.texml_tree.specs.declared.table.Elem.{Elem}
use Rattle.texml_tree.specs.declared.table.ElementLine.{ElementLine}
use Rattle.texml_tree.specs.declared.table.Elements.{Elements}
use Rattle.texml_model.specs.Chain.{Holding, may, first_some, behind, by_one, chain_of, shortest, chain_between}
use Rattle.texml_model.specs.Rules.{IsContentModel, line_or, lists, held, attr_number, attrs_of, holding_in}
use Rattle.texml_model.specs.Levels.{rows_of, chain_lists, at, upto, bit_at, holding_with}
use Rattle.texml_model.specs.Prepared.{held_row, held_rows, attr_row, attr_rows, chains_in, all_chains_in, IsPrepared}
use Rattle.texml_model.proofs.Least.{upto_length, upto_at}

-- what each line holds

abbrev bit : Option (List Bool) → ℕ → Bool
bit row e = option_map_or (λ bits. unwrap_or (slice_get bits e) false) row false

bit_items : (o : Option (Vec Bool Global)) (e : ℕ) → option_map_or (λ row. unwrap_or (slice_get row.items e) false) o false ≡ bit (option_map (λ row. row.items) o) e
bit_items None e = refl
bit_items (Some row) e = refl

mapped : (f : ElementLine → Bool) (o : Option ElementLine) → unwrap_or (option_map f o) false ≡ option_map_or f o false
mapped f None = refl
mapped f (Some line) = refl

row_is : (lines : List ElementLine) (o : Option ElementLine) (e : ℕ) → bit (option_map (held_row lines) o) e ≡ option_map_or (λ parent. option_map_or (λ child. lists parent.holds child.name) (slice_get lines e) false) o false
row_is lines None e = refl
row_is lines (Some parent) e = ap (λ o. unwrap_or o false) (slice_get-map (λ child. lists parent.holds child.name) lines e) ∙ mapped (λ child. lists parent.holds child.name) (slice_get lines e)

pub held_is : (t : Elements) (bits : List (Vec Bool Global)) → rows_of bits ≡ held_rows t.lines → (p e : ℕ) → bit_at bits p e ≡ held t p e
held_is t bits h p e =
    bit_items (slice_get bits p) e ∙ ap (λ o. bit o e) (sym (slice_get-map (λ row. row.items) bits p) ∙ ap (λ rows. slice_get rows p) h ∙ slice_get-map (held_row t.lines) t.lines p) ∙ row_is t.lines (slice_get t.lines p) e

pub holding_is : (t : Elements) (bits : List (Vec Bool Global)) → rows_of bits ≡ held_rows t.lines → holding_with t.lines bits ≡ holding_in t
holding_is t bits h = (λ i. record {
  size = length t.lines;
  opens = line_or false (λ line. line.flags.opens) t;
  takes_text = line_or false (λ line. line.flags.text) t;
  holds = λ p e. held_is t bits h p e i;
})

pub bits_length : (lines : List ElementLine) (bits : List (Vec Bool Global)) → rows_of bits ≡ held_rows lines → length bits ≡ length lines
bits_length lines bits h = sym (length-map bits (λ row. row.items)) ∙ ap length h ∙ length-map lines (held_row lines)

-- no chain leads to or from what isn't in the table

shut : (b : Bool) → (b && false) ≡ false
shut true = refl
shut false = refl

all_none : (g : ℕ → Option (List ℕ)) (es : List ℕ) → ((e : ℕ) → g e ≡ None) → first_some g es ≡ None
all_none g [] h = refl
all_none g (e ∷ es) h = ap (λ o. option_or o (first_some g es)) (h e) ∙ all_none g es h

behind_shut : (b : Bool) (e : ℕ) (f : ℕ → Option (List ℕ)) → b ≡ false → behind b e f ≡ None
behind_shut true e f h = absurd (cc)
behind_shut false e f h = refl

behind_nothing : (b : Bool) (e : ℕ) (f : ℕ → Option (List ℕ)) → f e ≡ None → behind b e f ≡ None
behind_nothing true e f h = ap (option_map (λ c. e ∷ c)) h
behind_nothing false e f h = refl

no_line : (t : Elements) (f : ElementLine → Bool) (e : ℕ) → length t.lines ≤ e → line_or false f t e ≡ false
no_line t f e h = ap (λ o. option_map_or f o false) (slice_get_past t.lines e h)

no_child_by : (o : Option ElementLine) → option_map_or (λ (parent : ElementLine). false) o false ≡ false
no_child_by None = refl
no_child_by (Some line) = refl

not_held : (t : Elements) (p e : ℕ) → length t.lines ≤ e → held t p e ≡ false
not_held t p e h = (λ i. line_or false (λ parent. no_line t (λ child. lists parent.holds child.name) e h i) t p) ∙ no_child_by (slice_get t.lines p)

may_outside : (t : Elements) (p : ℕ) (child : Option ℕ) → length t.lines ≤ p → may (holding_in t) p child ≡ false
may_outside t p None h = no_line t (λ line. line.flags.text) p h
may_outside t p (Some e) h = no_line t (λ parent. line_or false (λ child. lists parent.holds child.name) t e) p h

from_outside : (t : Elements) (child : Option ℕ) (n p : ℕ) → length t.lines ≤ p → chain_of (holding_in t) child n p ≡ None
from_outside t child zero p h = ap (λ (b : Bool). if b then Some [] else None) (may_outside t p child h)
from_outside t child (suc n) p h = all_none (λ e. behind ((holding_in t).opens e && (holding_in t).holds p e) e (chain_of (holding_in t) child n)) (range_with_len 0 (length t.lines))
    (λ e. behind_shut ((holding_in t).opens e && (holding_in t).holds p e) e (chain_of (holding_in t) child n)
    (ap (λ (b : Bool). (holding_in t).opens e && b) (may_outside t p (Some e) h) ∙ shut ((holding_in t).opens e)))

to_outside : (t : Elements) (e n p : ℕ) → length t.lines ≤ e → chain_of (holding_in t) (Some e) n p ≡ None
to_outside t e zero p h = ap (λ (b : Bool). if b then Some [] else None) (not_held t p e h)
to_outside t e (suc n) p h = all_none (λ x. behind ((holding_in t).opens x && (holding_in t).holds p x) x (chain_of (holding_in t) (Some e) n)) (range_with_len 0 (length t.lines))
    (λ x. behind_nothing ((holding_in t).opens x && (holding_in t).holds p x) x (chain_of (holding_in t) (Some e) n) (to_outside t e n x h))

none_short : (t : Elements) (child : Option ℕ) (n p : ℕ) → ((m : ℕ) → chain_of (holding_in t) child m p ≡ None) → shortest (holding_in t) child n p ≡ None
none_short t child zero p h = h 0
none_short t child (suc n) p h = (λ i. option_or (none_short t child n p h i) (h (suc n) i))

none_from : (t : Elements) (p : ℕ) (child : Option ℕ) → length t.lines ≤ p → chain_between (holding_in t) p child ≡ None
unfolding chain_between
none_from t p child h = none_short t child (length t.lines) p (λ m. from_outside t child m p h)

none_to : (t : Elements) (p e : ℕ) → length t.lines ≤ e → chain_between (holding_in t) p (Some e) ≡ None
unfolding chain_between
none_to t p e h = none_short t (Some e) (length t.lines) p (λ m. to_outside t e m p h)

-- the chains that are kept

within : (n m : ℕ) → (n < m) ⊎ (m ≤ n)
within n m = grind arith

pub chain_at_is : (t : Elements) (child : Option ℕ) (found : List (Option (List ℕ))) → found ≡ chains_in t child → (p : ℕ) → at found p ≡ chain_between (holding_in t) p child
chain_at_is t child found h p = ap (λ l. at l p) h ∙ (elim (within p (length t.lines)) [
  | inl l ↦ upto_at (λ q. chain_between (holding_in t) q child) (length t.lines) p l
  | inr l ↦ (let k = upto_length (λ q. chain_between (holding_in t) q child) (length t.lines) in get_or_past (chains_in t child) p None (omega (arith, k))) ∙ sym (none_from t p child l)
])

abbrev All_found : Type 0
All_found = List (Vec (Option (Vec Elem Global)) Global)

abbrev lists_in : Vec (Option (Vec Elem Global)) Global → List (Option (List ℕ))
lists_in found = chain_lists found.items

some_same : {A : Type 0} (x y : A) → Some x ≡ Some y → x ≡ y
some_same x y e = cc

none_is_no : {A : Type 0} (x : A) → None ≡ Some x → ⊥
none_is_no x e = cc

upto_get : {A : Type 0} (f : ℕ → A) (n e : ℕ) → e < n → slice_get (upto f n) e ≡ Some (f e)
upto_get f n e l = slice_get-get_or (upto f n) e (f e) (let k = upto_length f n in omega (arith, k)) ∙ ap (λ x. Some x) (get_or-map-range_with_len f 0 n e e (f e) l (omega arith))

to_child : (t : Elements) (all : All_found) (e : ℕ) → map lists_in all ≡ all_chains_in t → option_map lists_in (slice_get all e) ≡ slice_get (all_chains_in t) e
to_child t all e h = sym (slice_get-map lists_in all e) ∙ ap (λ l. slice_get l e) h

chain_to_some : (t : Elements) (all : All_found) (e : ℕ) (found : Vec (Option (Vec Elem Global)) Global) → map lists_in all ≡ all_chains_in t → slice_get all e ≡ Some found → (p : ℕ) → at (chain_lists found.items) p ≡ chain_between (holding_in t) p (Some e)
chain_to_some t all e found h g p = chain_at_is t (Some e) (chain_lists found.items) (some_same _ _ (
    ap (option_map lists_in) (sym g) ∙ to_child t all e h ∙ upto_get (λ x. chains_in t (Some x)) (length t.lines) e (
    let k = slice_get_within all e found g in
    let m : length all ≡ length t.lines = sym (length-map all lists_in) ∙ ap length h ∙ upto_length (λ x. chains_in t (Some x)) (length t.lines) in
    omega (arith, k, m)))) p

chain_to_none : (t : Elements) (all : All_found) (e : ℕ) → map lists_in all ≡ all_chains_in t → slice_get all e ≡ None → (p : ℕ) → None ≡ chain_between (holding_in t) p (Some e)
chain_to_none t all e h g p = elim (within e (length t.lines)) [
  | inl l ↦ absurd (none_is_no (chains_in t (Some e)) (ap (option_map lists_in) (sym g) ∙ to_child t all e h ∙ upto_get (λ x. chains_in t (Some x)) (length t.lines) e l))
  | inr l ↦ sym (none_to t p e l)
]

chain_to_by : (t : Elements) (all : All_found) (e : ℕ) → map lists_in all ≡ all_chains_in t → (p : ℕ) (o : Option (Vec (Option (Vec Elem Global)) Global)) → slice_get all e ≡ o → option_and_then (λ found. at (chain_lists found.items) p) o ≡ chain_between (holding_in t) p (Some e)
chain_to_by t all e h p None g = chain_to_none t all e h g p
chain_to_by t all e h p (Some found) g = chain_to_some t all e found h g p

pub chain_to_is : (t : Elements) (all : All_found) (e : ℕ) → map lists_in all ≡ all_chains_in t → (p : ℕ) → option_and_then (λ found. at (chain_lists found.items) p) (slice_get all e) ≡ chain_between (holding_in t) p (Some e)
chain_to_is t all e h p = chain_to_by t all e h p (slice_get all e) refl

-- the numbers of attributes

row_items : (o : Option (Vec ℕ Global)) → option_map_or (λ row. row.items) o [] ≡ unwrap_or (option_map (λ row. row.items) o) []
row_items None = refl
row_items (Some row) = refl

row_by : (t : Elements) (o : Option ElementLine) → unwrap_or (option_map (attr_row t.attributes) o) [] ≡ option_map_or (λ line. map (attr_number t) line.attrs) o []
row_by t None = refl
row_by t (Some line) = refl

pub attrs_is : (t : Elements) (numbers : List (Vec ℕ Global)) (e : ℕ) → rows_of numbers ≡ attr_rows t.attributes t.lines → option_map_or (λ row. row.items) (slice_get numbers e) [] ≡ attrs_of t e
attrs_is t numbers e h =
    row_items (slice_get numbers e) ∙ ap (λ o. unwrap_or o []) (sym (slice_get-map (λ row. row.items) numbers e) ∙ ap (λ l. slice_get l e) h ∙ slice_get-map (attr_row t.attributes) t.lines e) ∙ row_by t (slice_get t.lines e)

-- a content model is prepared where each part is made from the lines and attributes of its table

pub prepared : (b t : Elements) (lines : List ElementLine) (attributes : List (List ℕ)) (bits seen : List (Vec Bool Global)) (numbers : List (Vec ℕ Global)) (text_chains : List (Option (Vec Elem Global))) (all : All_found)
    → IsContentModel b → t ≡ b → lines ≡ t.lines → attributes ≡ t.attributes → seen ≡ bits
    → rows_of bits ≡ held_rows lines → rows_of numbers ≡ attr_rows attributes lines
    → chain_lists text_chains ≡ upto (λ p. chain_between (holding_with lines seen) p None) (length lines)
    → map lists_in all ≡ upto (λ e. upto (λ p. chain_between (holding_with lines seen) p (Some e)) (length lines)) (length lines)
    → IsPrepared t bits numbers text_chains all
prepared b t lines attributes bits seen numbers text_chains all m same l a s hb hn ht he =
    let kept : rows_of bits ≡ held_rows t.lines = hb ∙ ap held_rows l in
    let whole : holding_with lines seen ≡ holding_in t = (λ i. holding_with (l i) (s i)) ∙ holding_is t bits kept in
    record {
      model = subst IsContentModel (sym same) m;
      holds = kept;
      attrs = hn ∙ (λ i. attr_rows (a i) (l i));
      to_text = ht ∙ (λ i. upto (λ p. chain_between (whole i) p None) (length (l i)));
      to_elements = he ∙ (λ i. upto (λ e. upto (λ p. chain_between (whole i) p (Some e)) (length (l i))) (length (l i)));
    }
