-- A table has the elements of each tree that is valid by it.
use Rattle.std.proofs.Common.{arith, ◌≡◌, ℕ, zero, suc, ◌<◌, Bool, true, false, List, length, Option, Some, None, refl, cond, nat_lt}
use Rattle.std.specs.Option.{option_map_or}
use Rattle.std.specs.List.{slice_get, position, position_or_len}
use Rattle.std.proofs.lemmas.List.Elements.{All-nil, All-cons, All-append}
use Rattle.std.proofs.lemmas.Bool.Decides.{nat_tests}
use Rattle.std.proofs.lemmas.Option.{slice_get_within}
use Rattle.texml_token.specs.Token.{text_eq}
use Rattle.texml_tree.specs.declared.table.Elements.{Elements}
use Rattle.texml_tree.specs.declared.table.ElementLine.{ElementLine}
use Rattle.texml_tree.specs.Tree.{Head, Tree, Trees, text, element, none, more}
use Rattle.texml_model.specs.Rules.{Rules, rules_of, lists}
use Rattle.texml_build.specs.Valid.{MayStand, ValidTree, ValidKids, Valid}
use Rattle.texml_xref.specs.Refs.{heads, heads_in}
use Rattle.texml_html.specs.Html.{AllKnown}

-- what stands at a place is in the table, if it is an element
abbrev Stands : Rules → Tree → Type 0
Stands r (text t) = Unit {0}
Stands r (element h kids) = h.elem < r.size

-- what is held is in the table
abbrev Within : Rules → Type 0
Within r = (p e : ℕ) → r.holds p e ≡ true → e < r.size

stands : (r : Rules) (p : ℕ) (t : Tree) → Within r → MayStand r p t → Stands r t
stands r p (text t) within may = tt
stands r p (element h kids) within may = within p h.elem may

mutual
  known_tree : (r : Rules) (n : ℕ) (t : Tree) → Within r → Stands r t → ValidTree r n t → AllKnown r (heads t)
  known_tree r n (text t) within here valid = All-nil (λ (h : Head). h.elem < r.size)
  known_tree r zero (element h kids) within here valid = absurd valid
  known_tree r (suc n) (element h kids) within here valid = All-cons (λ (x : Head). x.elem < r.size) h (heads_in kids) here (known_kids r h.elem n kids within valid.2)

  known_kids : (r : Rules) (p n : ℕ) (ts : Trees) → Within r → ValidKids r p n ts → AllKnown r (heads_in ts)
  known_kids r p n none within valid = All-nil (λ (h : Head). h.elem < r.size)
  known_kids r p n (more t ts) within valid =
      All-append (λ (h : Head). h.elem < r.size) (heads t) (heads_in ts) (known_tree r n t within (stands r p t within valid.0) valid.2) (known_kids r p n ts within valid.3)

found_within : {A : Type 0} (f : A → Bool) (xs : List A) (e : ℕ) (o : Option A) → slice_get xs e ≡ o → option_map_or f o false ≡ true → e < length xs
found_within f xs e None g h = absurd (cc)
found_within f xs e (Some x) g h = slice_get_within xs e x g

held_by : (lines : List ElementLine) (e : ℕ) (o : Option ElementLine) → option_map_or (λ parent. option_map_or (λ child. lists parent.holds child.name) (slice_get lines e) false) o false ≡ true → e < length lines
held_by lines e None h = absurd (cc)
held_by lines e (Some parent) h = found_within (λ child. lists parent.holds child.name) lines e (slice_get lines e) refl h

all_within : (elements : Elements) → Within (rules_of elements)
unfolding rules_of
all_within elements p e h = held_by elements.lines e (slice_get elements.lines p) h

some_by : (n m i : ℕ) (b : Bool) → nat_lt n m ≡ b → cond b (Some n) None ≡ Some i → i < m
some_by n m i true e h = let k : i ≡ n = cc in grind (arith, nat_tests, k, e)
some_by n m i false e h = absurd (cc)

position_within : {A : Type 0} (f : A → Bool) (xs : List A) (i : ℕ) → position f xs ≡ Some i → i < length xs
position_within f xs i h = some_by (position_or_len f xs) (length xs) i (nat_lt (position_or_len f xs) (length xs)) refl h

root_within : (elements : Elements) (e : ℕ) (name : List ℕ) → (rules_of elements).named name ≡ Some e → e < (rules_of elements).size
unfolding rules_of
root_within elements e name h = position_within (λ line. text_eq line.name name) elements.lines e h

pub valid_is_known : (elements : Elements) (t : Tree) → Valid (rules_of elements) t → AllKnown (rules_of elements) (heads t)
valid_is_known elements (text t) valid = absurd valid
valid_is_known elements (element h kids) valid = known_tree (rules_of elements) 200 (element h kids) (all_within elements) (root_within elements h.elem _ valid.0) valid.1
