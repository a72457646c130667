-- Going through a tree, with the places of ids and references.
use Rattle.std.proofs.Common.{arith, ◌≡◌, ◌∙◌, ap, sym, subst, refl, true, false, ℕ, ◌+◌, ◌<◌, ◌≤◌, List, [], ◌∷◌, ◌++◌, length, map, drop, take, get_or, append_assoc, append-nil}
use Rattle.std.specs.Prelude.{if◌then◌else◌}
use Rattle.std.specs.List.{All}
use Rattle.std.proofs.lemmas.List.{length-append, take_at, drop_at, drop_more, drop_all}
use Rattle.std.proofs.lemmas.List.Elements.{filter-append, All-same, All-take, All-drop, All-head}
use Rattle.texml_tree.specs.declared.tree.Node.{Node}
use Rattle.texml_tree.specs.Tree.{Head, Tree, Trees, element, trees, none, more}
use Rattle.texml_tree.specs.Plain.{plain}
use Rattle.texml_model.specs.Rules.{Rules}
use Rattle.texml_xref.specs.Refs.{LinkedTree, heads, heads_in, identified, is_placed, placed}
use Rattle.texml_html.specs.Html.{Places, behind, entries, entries_in, has_inside, opening, end_tag, node, nodes}
use Rattle.texml_html.specs.Walk.{Ahead}
use Rattle.texml_html.specs.Writing.{Lent, Wrote}
use Rattle.texml_html.proofs.Pieces.{wrote_then, wrote_same}

abbrev pub plains : List Node → Trees
plains nodes = trees (map plain nodes)

-- the elements of a list of nodes
abbrev pub heads_of : List Node → List Head
heads_of nodes = heads_in (plains nodes)

pub heads_of-append : (xs ys : List Node) → heads_of (xs ++ ys) ≡ heads_of xs ++ heads_of ys
heads_of-append [] ys = refl
heads_of-append (x ∷ xs) ys = ap (λ l. heads (plain x) ++ l) (heads_of-append xs ys) ∙ sym (append_assoc (heads (plain x)) (heads_of xs) (heads_of ys))

pub behind_nothing : (l : LinkedTree) (at : Places) → behind l at [] ≡ at
behind_nothing l at =
    let a : at.ids + 0 ≡ at.ids = omega arith in
    let b : at.references + 0 ≡ at.references = omega arith in
    λ i. record { ids = a i; references = b i }

counts_append : (l : LinkedTree) (xs ys : List Head) → (length (identified (xs ++ ys)) ≡ length (identified xs) + length (identified ys)) × (length (placed l.reference (xs ++ ys)) ≡ length (placed l.reference xs) + length (placed l.reference ys))
counts_append l xs ys = (
  ap length (filter-append (λ h. h.identified) xs ys) ∙ length-append (identified xs) (identified ys),
  ap length (filter-append (is_placed l.reference) xs ys) ∙ length-append (placed l.reference xs) (placed l.reference ys),
)

pub behind_then : (l : LinkedTree) (at : Places) (xs ys : List Head) → behind l (behind l at xs) ys ≡ behind l at (xs ++ ys)
behind_then l at xs ys =
    let n = counts_append l xs ys in
    let a : at.ids + length (identified xs) + length (identified ys) ≡ at.ids + length (identified (xs ++ ys)) = omega (arith, n.0) in
    let b : at.references + length (placed l.reference xs) + length (placed l.reference ys) ≡ at.references + length (placed l.reference (xs ++ ys)) = omega (arith, n.1) in
    λ i. record { ids = a i; references = b i }

-- What comes next.

all_front : {A : Type 0} (P : A → Type 0) (xs ys : List A) → All P (xs ++ ys) → All P xs
all_front P xs ys h = All-same P xs (take (length xs) (xs ++ ys)) (sym (take_at xs ys (length xs) refl)) (All-take P (length xs) (xs ++ ys) h)

all_rest : {A : Type 0} (P : A → Type 0) (xs ys : List A) → All P (xs ++ ys) → All P ys
all_rest P xs ys h = All-same P ys (drop (length xs) (xs ++ ys)) (sym (drop_at xs ys (length xs) refl)) (All-drop P (length xs) (xs ++ ys) h)

pub ahead_front : (r : Rules) (l : LinkedTree) (at : Places) (xs ys : List Head) → Ahead r l at (xs ++ ys) → Ahead r l at xs
ahead_front r l at xs ys ahead =
    let n = counts_append l xs ys in
    record {
      known = all_front (λ h. h.elem < r.size) xs ys ahead.known;
      ids = omega (arith, n.0, ahead.ids);
      references = omega (arith, n.1, ahead.references);
    }

pub ahead_rest : (r : Rules) (l : LinkedTree) (at : Places) (xs ys : List Head) → Ahead r l at (xs ++ ys) → Ahead r l (behind l at xs) ys
ahead_rest r l at xs ys ahead =
    let n = counts_append l xs ys in
    record {
      known = all_rest (λ h. h.elem < r.size) xs ys ahead.known;
      ids = omega (arith, n.0, ahead.ids);
      references = omega (arith, n.1, ahead.references);
    }

-- the nodes that are left begin with the next one
pub left_is : (nodes : List Node) (i : ℕ) (x : Node) → i < length nodes → x ≡ get_or nodes i x → drop i nodes ≡ x ∷ drop (i + 1) nodes
left_is nodes i x n e = drop_more nodes i x n ∙ ap (λ y. y ∷ drop (i + 1) nodes) (sym e)

-- These nodes are left, and lead to these places.
pub record Passing (r : Rules) (l : LinkedTree) (at : Places) (nodes : List Node) (end : Places) : Type 0 where
  pub ahead : Ahead r l at (heads_of nodes)
  pub leads : behind l at (heads_of nodes) ≡ end

pub passing_all : (r : Rules) (l : LinkedTree) (start at : Places) (h : Head) (nodes : List Node) (t : Tree) → Ahead r l start (heads t) → t ≡ element h (plains nodes) → at ≡ behind l start (h ∷ [])
    → Passing r l at nodes (behind l start (heads t))
passing_all r l start at h nodes t ahead e a =
    let ahead_of : Ahead r l start ((h ∷ []) ++ heads_of nodes) = subst (λ (x : Tree). Ahead r l start (heads x)) e ahead in
    record {
      ahead = subst (λ (p : Places). Ahead r l p (heads_of nodes)) (sym a) (ahead_rest r l start (h ∷ []) (heads_of nodes) ahead_of);
      leads = ap (λ p. behind l p (heads_of nodes)) a ∙ behind_then l start (h ∷ []) (heads_of nodes) ∙ sym (ap (λ x. behind l start (heads x)) e);
    }

pub passing_child : (r : Rules) (l : LinkedTree) (at : Places) (nodes : List Node) (i : ℕ) (x : Node) (end : Places) → i < length nodes → x ≡ get_or nodes i x
    → Passing r l at (drop i nodes) end → Ahead r l at (heads (plain x))
passing_child r l at nodes i x end n e passing =
    ahead_front r l at (heads (plain x)) (heads_of (drop (i + 1) nodes)) (subst (λ (xs : List Node). Ahead r l at (heads_of xs)) (left_is nodes i x n e) passing.ahead)

pub passing_on : (r : Rules) (l : LinkedTree) (at next : Places) (nodes : List Node) (i : ℕ) (x : Node) (end : Places) → i < length nodes → x ≡ get_or nodes i x
    → next ≡ behind l at (heads (plain x)) → Passing r l at (drop i nodes) end → Passing r l next (drop (i + 1) nodes) end
passing_on r l at next nodes i x end n e a passing =
    let rest : List Head = heads_of (drop (i + 1) nodes) in
    record {
      ahead = subst (λ (p : Places). Ahead r l p rest) (sym a)
          (ahead_rest r l at (heads (plain x)) rest (subst (λ (xs : List Node). Ahead r l at (heads_of xs)) (left_is nodes i x n e) passing.ahead));
      leads = ap (λ p. behind l p rest) a ∙ behind_then l at (heads (plain x)) rest ∙ sym (ap (λ xs. behind l at (heads_of xs)) (left_is nodes i x n e)) ∙ passing.leads;
    }

pub passing_end : (r : Rules) (l : LinkedTree) (at : Places) (nodes : List Node) (i : ℕ) (end : Places) → length nodes ≤ i → Passing r l at (drop i nodes) end → at ≡ end
passing_end r l at nodes i end n passing = sym (behind_nothing l at) ∙ sym (ap (λ xs. behind l at (heads_of xs)) (drop_all i nodes n)) ∙ passing.leads

-- the head of an element that comes next
pub ahead_head : (r : Rules) (l : LinkedTree) (at : Places) (h : Head) (nodes : List Node) (t : Tree) → Ahead r l at (heads t) → t ≡ element h (plains nodes) → Ahead r l at (h ∷ [])
ahead_head r l at h nodes t ahead e = ahead_front r l at (h ∷ []) (heads_of nodes) (subst (λ (x : Tree). Ahead r l at (heads x)) e ahead)

-- What is written of nodes one after the other, the places going on.
pub record Goes (l : LinkedTree) (one : Places → Tree → List ℕ) (all : Places → Trees → List ℕ) : Type 0 where
  pub at_none : (at : Places) → all at none ≡ []
  pub at_more : (at : Places) (t : Tree) (ts : Trees) → all at (more t ts) ≡ one at t ++ all (behind l at (heads t)) ts

-- These nodes are left to be written, and then this is written whole.
pub record Left (r : Rules) (l : LinkedTree) (all : Places → Trees → List ℕ) (start now : Lent) (at : Places) (nodes : List Node) (whole : List ℕ) (end : Places) : Type 0 where
  pub done : List ℕ
  pub wrote : Wrote start done now
  pub rest : done ++ all at (plains nodes) ≡ whole
  pub passing : Passing r l at nodes end

pub left_on : (r : Rules) (l : LinkedTree) (one : Places → Tree → List ℕ) (all : Places → Trees → List ℕ) → Goes l one all → (start now new : Lent) (at next : Places) (nodes : List Node) (i : ℕ) (x : Node) (whole : List ℕ) (end : Places)
    → i < length nodes → x ≡ get_or nodes i x → Wrote now (one at (plain x)) new → next ≡ behind l at (heads (plain x))
    → Left r l all start now at (drop i nodes) whole end → Left r l all start new next (drop (i + 1) nodes) whole end
left_on r l one all goes start now new at next nodes i x whole end n e wrote a left = record {
  done = left.done ++ one at (plain x);
  wrote = wrote_then start now new left.done (one at (plain x)) left.wrote wrote;
  rest =
      append_assoc left.done (one at (plain x)) (all next (plains (drop (i + 1) nodes)))
      ∙ ap (λ p. left.done ++ (one at (plain x) ++ all p (plains (drop (i + 1) nodes)))) a
      ∙ sym (ap (λ xs. left.done ++ xs) (ap (λ xs. all at (plains xs)) (left_is nodes i x n e) ∙ goes.at_more at (plain x) (plains (drop (i + 1) nodes))))
      ∙ left.rest;
  passing = passing_on r l at next nodes i x end n e a left.passing;
}

pub left_end : (r : Rules) (l : LinkedTree) (one : Places → Tree → List ℕ) (all : Places → Trees → List ℕ) → Goes l one all → (start now : Lent) (at : Places) (nodes : List Node) (i : ℕ) (whole : List ℕ) (end : Places)
    → length nodes ≤ i → Left r l all start now at (drop i nodes) whole end → Wrote start whole now
left_end r l one all goes start now at nodes i whole end n left =
    wrote_same start now left.done whole
    (sym (append-nil left.done) ∙ sym (ap (λ xs. left.done ++ xs) (ap (λ xs. all at (plains xs)) (drop_all i nodes n) ∙ goes.at_none at)) ∙ left.rest) left.wrote

pub entries_go : (r : Rules) (l : LinkedTree) → Goes l (entries r l) (entries_in r l)
entries_go r l = record { at_none = λ at. refl; at_more = λ at t ts. refl }

pub nodes_go : (r : Rules) (l : LinkedTree) → Goes l (node r l) (nodes r l)
nodes_go r l = record { at_none = λ at. refl; at_more = λ at t ts. refl }

pub head_known : (r : Rules) (l : LinkedTree) (at : Places) (h : Head) → Ahead r l at (h ∷ []) → h.elem < r.size
head_known r l at h ahead = All-head (λ x. x.elem < r.size) h [] ahead.known

pub node_open : (r : Rules) (l : LinkedTree) (at : Places) (h : Head) (kids : List Node) (t : Tree) → t ≡ element h (plains kids) → has_inside r l h ≡ true
    → opening r l at h ++ nodes r l (behind l at (h ∷ [])) (plains kids) ++ end_tag r h ≡ node r l at t
node_open r l at h kids t e inside =
    append_assoc (opening r l at h) (nodes r l (behind l at (h ∷ [])) (plains kids)) (end_tag r h)
    ∙ sym (ap (λ b. opening r l at h ++ (if b then nodes r l (behind l at (h ∷ [])) (plains kids) ++ end_tag r h else [])) inside)
    ∙ sym (ap (node r l at) e)

pub node_shut : (r : Rules) (l : LinkedTree) (at : Places) (h : Head) (kids : List Node) (t : Tree) → t ≡ element h (plains kids) → has_inside r l h ≡ false → opening r l at h ≡ node r l at t
node_shut r l at h kids t e shut =
    sym (append-nil (opening r l at h))
    ∙ sym (ap (λ b. opening r l at h ++ (if b then nodes r l (behind l at (h ∷ [])) (plains kids) ++ end_tag r h else [])) shut)
    ∙ sym (ap (node r l at) e)
