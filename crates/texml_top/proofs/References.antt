-- Each linked tree is cross-referenced.
use Rattle.std.proofs.Common.{◌≡◌, ◌≢◌, ◌+◌, ℕ, Bool, true, false, cond, List, [], ◌∷◌, ◌++◌, length, Option, Some, None, option_map, unwrap_or, reverse, true≢false, refl, sym, ap, ◌∙◌, subst, arith}
use Rattle.std.specs.List.{All, find}
use Rattle.std.specs.Option.{option_or, option_and_then}
use Rattle.std.proofs.lemmas.Fmt.{decimal_injective}
use Rattle.std.proofs.lemmas.List.{reverse-append}
use Rattle.std.proofs.lemmas.List.Elements.{All-nil, All-cons}
use Rattle.std.proofs.lemmas.List.Folds.{find-append}
use Rattle.std.proofs.lemmas.Option.{slice_get-map}
use Rattle.texml_token.specs.Token.{text_eq}
use Rattle.texml_token.proofs.Table.{text-decides}
use Rattle.texml_tree.specs.Tree.{Mark, Head}
use Rattle.texml_xref.specs.Refs.{Link, LinkedTree, identified, id_of, placed, elements_of, mark_of, link_to, owner_from, owner_in, link_in, link_at}
use Rattle.texml_top.specs.References.{AllOther, IsLastMark, LeadsTo, IsLinked, IsCrossReferenced}

-- Marks

abbrev HasLabel : List ℕ → Mark → Bool
HasLabel label m = text_eq m.label label

-- what is found among marks
abbrev Marked : List ℕ → List Mark → Option Mark → Type 0
Marked label marks None = AllOther label marks
Marked label marks (Some m) = IsLastMark label m.number marks

mark_of-cons : (label : List ℕ) (m : Mark) (ms : List Mark) → mark_of label (m ∷ ms) ≡ option_or (mark_of label ms) (cond (HasLabel label m) (Some m) None)
mark_of-cons label m ms = ap (find (HasLabel label)) (reverse-append (m ∷ []) ms) ∙ find-append (HasLabel label) (reverse ms) (m ∷ [])

more_marks : (label : List ℕ) (m : Mark) (ms : List Mark) (found : Option Mark) (b : Bool) → HasLabel label m ≡ b → Marked label ms found → Marked label (m ∷ ms) (option_or found (cond b (Some m) None))
more_marks label m ms (Some k) b e h = record { before = m ∷ h.before; behind = h.behind; split = ap (λ l. m ∷ l) h.split; last = h.last }
more_marks label m ms None true e h =
    record { before = []; behind = ms; split = ap (λ (l : List ℕ). record { label = l; number = m.number } ∷ ms) ((text-decides m.label label).0 e); last = h }
more_marks label m ms None false e h = All-cons (λ (k : Mark). k.label ≢ label) m ms (λ same. true≢false (sym ((text-decides m.label label).1 same) ∙ e)) h

marked : (label : List ℕ) (marks : List Mark) → Marked label marks (mark_of label marks)
marked label [] = All-nil (λ (k : Mark). k.label ≢ label)
marked label (m ∷ ms) = subst (Marked label (m ∷ ms)) (sym (mark_of-cons label m ms)) (more_marks label m ms (mark_of label ms) (HasLabel label m) refl (marked label ms))

-- Owners

-- the owner among elements of which the first has this place
pub record OwnerFrom (place : ℕ) (label : List ℕ) (link : Link) (hs : List Head) : Type 0 where
  pub before : List Head
  pub owner : Head
  pub behind : List Head
  pub split : hs ≡ before ++ owner ∷ behind
  pub at : link.owner ≡ place + length before
  pub mark : IsLastMark label link.number owner.marks
  pub last : All (λ (h : Head). AllOther label h.marks) behind

abbrev LeadsFrom : ℕ → List ℕ → List Head → Option Link → Type 0
LeadsFrom place label hs None = All (λ (h : Head). AllOther label h.marks) hs
LeadsFrom place label hs (Some link) = OwnerFrom place label link hs

own_mark : (place : ℕ) (label : List ℕ) (h : Head) (hs : List Head) (found : Option Mark) → Marked label h.marks found → All (λ (h : Head). AllOther label h.marks) hs
    → LeadsFrom place label (h ∷ hs) (option_map (λ (m : Mark). record { owner = place; number = m.number }) found)
own_mark place label h hs None k none = All-cons (λ (h : Head). AllOther label h.marks) h hs k none
own_mark place label h hs (Some m) k none = record { before = []; owner = h; behind = hs; split = refl; at = omega arith; mark = k; last = none }

more_heads : (place : ℕ) (label : List ℕ) (h : Head) (hs : List Head) (found : Option Link) → LeadsFrom (place + 1) label hs found → LeadsFrom place label (h ∷ hs) (option_or found (link_to place label h.marks))
more_heads place label h hs (Some link) k = record { before = h ∷ k.before; owner = k.owner; behind = k.behind; split = ap (λ l. h ∷ l) k.split; at = let e = k.at in omega arith; mark = k.mark; last = k.last }
more_heads place label h hs None none = own_mark place label h hs (mark_of label h.marks) (marked label h.marks) none

leads_from : (place : ℕ) (label : List ℕ) (hs : List Head) → LeadsFrom place label hs (owner_from place hs label)
leads_from place label [] = All-nil (λ (h : Head). AllOther label h.marks)
leads_from place label (h ∷ hs) = more_heads place label h hs (owner_from (place + 1) hs label) (leads_from (place + 1) label hs)

from_first : (label : List ℕ) (hs : List Head) (found : Option Link) → LeadsFrom 0 label hs found → LeadsTo label hs found
from_first label hs None k = k
from_first label hs (Some link) k = record { before = k.before; owner = k.owner; behind = k.behind; split = k.split; place = let e = k.at in omega arith; mark = k.mark; last = k.last }

-- References

by_target : (hs : List Head) (target : Option (List ℕ)) → IsLinked target (identified hs) (option_and_then (owner_in hs) target)
by_target hs None = refl
by_target hs (Some label) = from_first label (identified hs) (owner_in hs label) (leads_from 0 label (identified hs))

pub cross_referenced : (l : LinkedTree) → IsCrossReferenced l
cross_referenced l = record {
  ids = λ a b few many e. decimal_injective a b few many (let same : id_of a ≡ id_of b = e in cc);
  links = λ at h there.
      let hs = elements_of l in
      let found : link_at l at ≡ link_in hs h = ap (λ o. unwrap_or o None) (slice_get-map (link_in hs) (placed l.reference hs) at ∙ ap (option_map (link_in hs)) there) in
      subst (IsLinked h.target (identified hs)) (sym found) (by_target hs h.target);
}
