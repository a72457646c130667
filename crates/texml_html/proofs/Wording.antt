-- Texts and escapes.
use Rattle.std.proofs.Common.{arith, ◌≡◌, ◌∙◌, ap, sym, subst, refl, ℕ, ◌+◌, ◌-◌, ◌<◌, ◌≤◌, true, List, [], ◌∷◌, ◌++◌, length, take, drop, get_or, Option, Some, None, append_assoc, append-nil}
use Rattle.std.specs.Prelude.{codes, ◌&&◌, if◌then◌else◌}
use Rattle.std.specs.Option.{option_map}
use Rattle.std.specs.List.{flat_map}
use Rattle.std.proofs.lemmas.List.{take_more, take_all, drop_all, drop-take, drop-append-le, length-take-le}
use Rattle.std.proofs.lemmas.Grind.{flat_map-append}
use Rattle.texml_tree.specs.declared.tree.Node.{Node}
use Rattle.texml_tree.specs.Tree.{Head, Tree, Trees, element}
use Rattle.texml_tree.specs.Plain.{plain}
use Rattle.texml_model.specs.Rules.{Rules}
use Rattle.texml_xref.specs.Refs.{Link, id_of}
use Rattle.texml_html.specs.declared.escape.Inside.{Inside}
use Rattle.texml_html.specs.Html.{byte_in, escaped, texts, texts_in, texts_or_none, first_element, Places, link_start, reference, entry}
use Rattle.texml_html.specs.declared.escape.Inside.TheVariants.{Text}
use Rattle.texml_html.specs.Writing.{Lent, Wrote}
use Rattle.texml_html.proofs.Pieces.{wrote_then, wrote_same}
use Rattle.texml_html.proofs.Going.{plains}

texts_push : (xs : List Node) (x : Node) → texts_in (plains (xs ++ x ∷ [])) ≡ texts_in (plains xs) ++ texts (plain x)
texts_push [] x = append-nil (texts (plain x))
texts_push (y ∷ xs) x = ap (λ l. texts (plain y) ++ l) (texts_push xs x) ∙ sym (append_assoc (texts (plain y)) (texts_in (plains xs)) (texts (plain x)))

texts_on : (nodes : List Node) (i : ℕ) (x : Node) → i < length nodes → x ≡ get_or nodes i x → texts_in (plains (take (i + 1) nodes)) ≡ texts_in (plains (take i nodes)) ++ texts (plain x)
texts_on nodes i x l e = ap (λ xs. texts_in (plains xs)) (take_more nodes i x l ∙ ap (λ y. take i nodes ++ y ∷ []) (sym e)) ∙ texts_push (take i nodes) x

pub escaped-append : (inside : Inside) (a b : List ℕ) → escaped inside (a ++ b) ≡ escaped inside a ++ escaped inside b
escaped-append inside a b = flat_map-append (byte_in inside) a b

pub escaped_texts_on : (inside : Inside) (nodes : List Node) (i : ℕ) (x : Node) → i < length nodes → x ≡ get_or nodes i x
    → escaped inside (texts_in (plains (take i nodes))) ++ escaped inside (texts (plain x)) ≡ escaped inside (texts_in (plains (take (i + 1) nodes)))
escaped_texts_on inside nodes i x l e = sym (ap (escaped inside) (texts_on nodes i x l e) ∙ escaped-append inside (texts_in (plains (take i nodes))) (texts (plain x)))

pub texts_end : (inside : Inside) (nodes : List Node) (i : ℕ) (h : Head) (t : Tree) → length nodes ≤ i → t ≡ element h (plains nodes) → escaped inside (texts_in (plains (take i nodes))) ≡ escaped inside (texts t)
texts_end inside nodes i h t n e = ap (λ xs. escaped inside (texts_in (plains xs))) (take_all i nodes n) ∙ sym (ap (λ x. escaped inside (texts x)) e)

pub flat_on : {X : Type 0} (f : X → List ℕ) (xs : List X) (i : ℕ) (d : X) → i < length xs → flat_map f (take i xs) ++ f (get_or xs i d) ≡ flat_map f (take (i + 1) xs)
flat_on f xs i d l = sym (ap (flat_map f) (take_more xs i d l) ∙ flat_map-append f (take i xs) (get_or xs i d ∷ []) ∙ ap (λ y. flat_map f (take i xs) ++ y) (append-nil (f (get_or xs i d))))

-- Bytes up to a place are written, and those behind it stand for themselves.
pub record Escaping (inside : Inside) (bytes : List ℕ) (start now : Lent) (from at : ℕ) : Type 0 where
  pub within : from ≤ at
  pub wrote : Wrote start (escaped inside (take from bytes)) now
  pub plain : escaped inside (take at bytes) ≡ escaped inside (take from bytes) ++ drop from (take at bytes)

drop_push : (bytes : List ℕ) (from at d : ℕ) → from ≤ at → at < length bytes → drop from (take (at + 1) bytes) ≡ drop from (take at bytes) ++ get_or bytes at d ∷ []
drop_push bytes from at d f l =
    let n : from ≤ length (take at bytes) = (let k : length (take at bytes) ≡ at = length-take-le at bytes (omega (arith, l)) in omega (arith, k, f)) in
    ap (drop from) (take_more bytes at d l) ∙ drop-append-le from (take at bytes) (get_or bytes at d ∷ []) n

pub escaping_plain : (inside : Inside) (bytes : List ℕ) (start now new : Lent) (from next at d : ℕ) → at < length bytes → get_or bytes at d ∷ [] ≡ byte_in inside (get_or bytes at d) → new ≡ now → next ≡ from
    → Escaping inside bytes start now from at → Escaping inside bytes start new next (at + 1)
escaping_plain inside bytes start now new from next at d l e same_now same_from so_far =
    subst (λ (n : ℕ). Escaping inside bytes start new n (at + 1)) (sym same_from) (subst (λ (w : Lent). Escaping inside bytes start w from (at + 1)) (sym same_now) (record {
      within = (let k = so_far.within in omega (arith, k));
      wrote = so_far.wrote;
      plain =
          sym (flat_on (byte_in inside) bytes at d l)
          ∙ ap (λ x. x ++ byte_in inside (get_or bytes at d)) so_far.plain
          ∙ ap (λ x. escaped inside (take from bytes) ++ drop from (take at bytes) ++ x) (sym e)
          ∙ append_assoc (escaped inside (take from bytes)) (drop from (take at bytes)) (get_or bytes at d ∷ [])
          ∙ sym (ap (λ x. escaped inside (take from bytes) ++ x) (drop_push bytes from at d so_far.within l));
    }))

slice_is : (bytes : List ℕ) (from at : ℕ) → from ≤ at → take (at - from) (drop from bytes) ≡ drop from (take at bytes)
slice_is bytes from at f = sym (drop-take from (at - from) bytes) ∙ (let z : from + (at - from) ≡ at = omega (arith, f) in ap (λ (n : ℕ). drop from (take n bytes)) z)

pub escaping_escape : (inside : Inside) (bytes name : List ℕ) (start now new last : Lent) (from next at d : ℕ) → at < length bytes → name ≡ byte_in inside (get_or bytes at d)
    → Wrote now (take (at - from) (drop from bytes) ++ name) new → last ≡ new → next ≡ at + 1
    → Escaping inside bytes start now from at → Escaping inside bytes start last next (at + 1)
escaping_escape inside bytes name start now new last from next at d l e wrote same_last same_from so_far =
    let all_in : drop (at + 1) (take (at + 1) bytes) ≡ [] = drop_all (at + 1) (take (at + 1) bytes) (let k : length (take (at + 1) bytes) ≡ at + 1 = length-take-le (at + 1) bytes (omega (arith, l)) in omega (arith, k)) in
    let piece : escaped inside (take from bytes) ++ (take (at - from) (drop from bytes) ++ name) ≡ escaped inside (take (at + 1) bytes) =
    sym (append_assoc (escaped inside (take from bytes)) (take (at - from) (drop from bytes)) name)
    ∙ ap (λ x. escaped inside (take from bytes) ++ x ++ name) (slice_is bytes from at so_far.within)
    ∙ ap (λ x. x ++ name) (sym so_far.plain)
    ∙ ap (λ x. escaped inside (take at bytes) ++ x) e
    ∙ flat_on (byte_in inside) bytes at d l in
    subst (λ (n : ℕ). Escaping inside bytes start last n (at + 1)) (sym same_from) (subst (λ (w : Lent). Escaping inside bytes start w (at + 1) (at + 1)) (sym same_last) (record {
      within = omega arith;
      wrote = wrote_same start new (escaped inside (take from bytes) ++ (take (at - from) (drop from bytes) ++ name)) (escaped inside (take (at + 1) bytes)) piece
          (wrote_then start now new (escaped inside (take from bytes)) (take (at - from) (drop from bytes) ++ name) so_far.wrote wrote);
      plain = sym (append-nil (escaped inside (take (at + 1) bytes))) ∙ sym (ap (λ x. escaped inside (take (at + 1) bytes) ++ x) all_in);
    }))

pub escaping_end : (inside : Inside) (bytes : List ℕ) (start now new : Lent) (from at : ℕ) → length bytes ≤ at → Escaping inside bytes start now from at → Wrote now (drop from bytes) new → Wrote start (escaped inside bytes) new
escaping_end inside bytes start now new from at l so_far wrote =
    let whole : take at bytes ≡ bytes = take_all at bytes l in
    wrote_same start new (escaped inside (take from bytes) ++ drop from bytes) (escaped inside bytes)
    (ap (λ x. escaped inside (take from bytes) ++ drop from x) (sym whole) ∙ sym so_far.plain ∙ ap (escaped inside) whole)
    (wrote_then start now new (escaped inside (take from bytes)) (drop from bytes) so_far.wrote wrote)

pub entry_is : (r : Rules) (at : Places) (h : Head) (kids : Trees) → r.toc h.elem ≡ true → h.identified ≡ true
    → codes "<li>" ++ link_start (id_of at.ids) ++ escaped Text (texts_or_none (first_element kids)) ++ codes "</a></li>" ≡ entry r at h kids
entry_is r at h kids e f = λ i. if sym e i && sym f i then codes "<li>" ++ link_start (id_of at.ids) ++ escaped Text (texts_or_none (first_element kids)) ++ codes "</a></li>" else []

pub reference_none : (o : Option Link) → None ≡ option_map (λ l. l.owner) o → codes "<span class=\"undefined\">??</span>" ≡ reference o
reference_none None e = refl
reference_none (Some l) e = absurd (cc)
