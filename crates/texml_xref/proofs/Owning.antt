-- Owners of labels, one element and one mark after the other.
use Rattle.std.proofs.Common.{arith, ◌≡◌, ◌∙◌, ap, sym, subst, refl, ℕ, zero, suc, unwrap_or, ◌+◌, ◌<◌, ◌≤◌, Bool, true, false, cond, List, [], ◌∷◌, ◌++◌, length, map, take, get_or, Option, None, Some, if◌then◌else◌, append-nil}
use Rattle.std.specs.Prelude.{find}
use Rattle.std.specs.List.{slice_get}
use Rattle.std.specs.Option.{option_map, option_or, option_and_then}
use Rattle.std.proofs.lemmas.List.{map-append, length-append, reverse-append, take_more, take_all}
use Rattle.std.proofs.lemmas.List.Elements.{filter-append}
use Rattle.std.proofs.lemmas.List.FromFn.{map-range_with_len_more, length-map-range_with_len, get_or-map-range_with_len}
use Rattle.texml_token.specs.Token.{text_eq}
use Rattle.texml_tree.specs.declared.tree.Tag.{Tag}
use Rattle.texml_tree.specs.Tree.{Mark, Head}
use Rattle.texml_tree.specs.Plain.{mark_of as plain_mark}
use Rattle.texml_xref.specs.declared.owners.Owners.{Owners}
use Rattle.texml_xref.specs.Refs.{Link, LinkedTree, elements_of, ids_in, id_of, identified, link_at, link_in, mark_of, link_to, owner_from, owner_in, placed}
use Rattle.texml_xref.specs.Links.{kept_owner, ids_upto}
use Rattle.texml_xref.specs.Found.{HasOwners}

or_none : (o : Option Link) → option_or o None ≡ o
or_none None = refl
or_none (Some l) = refl

or_assoc : (a b c : Option Link) → option_or (option_or a b) c ≡ option_or a (option_or b c)
or_assoc None b c = refl
or_assoc (Some l) b c = refl

-- one element more

pub owner_from-push : (place : ℕ) (hs : List Head) (h : Head) (label : List ℕ) → owner_from place (hs ++ h ∷ []) label ≡ option_or (link_to (place + length hs) label h.marks) (owner_from place hs label)
owner_from-push place [] h label =
    let z : place ≡ place + 0 = omega arith in
    ap (λ (n : ℕ). link_to n label h.marks) z ∙ sym (or_none (link_to (place + 0) label h.marks))
owner_from-push place (x ∷ hs) h label =
    let z : place + 1 + length hs ≡ place + suc (length hs) = omega arith in
    ap (λ o. option_or o (link_to place label x.marks)) (owner_from-push (place + 1) hs h label)
    ∙ or_assoc (link_to (place + 1 + length hs) label h.marks) (owner_from (place + 1) hs label) (link_to place label x.marks)
    ∙ ap (λ (n : ℕ). option_or (link_to n label h.marks) (owner_from place (x ∷ hs) label)) z

identified-push : (hs : List Head) (h : Head) (b : Bool) → h.identified ≡ b → identified (hs ++ h ∷ []) ≡ identified hs ++ (if b then h ∷ [] else [])
identified-push hs h b e = filter-append (λ x. x.identified) hs (h ∷ []) ∙ ap (λ (c : Bool). identified hs ++ (if c then h ∷ [] else [])) e

pub noted : (ids : List (List ℕ)) (old new : Owners) (hs : List Head) (h : Head) (place : ℕ) → true ≡ h.identified → place ≡ length ids
    → ((label : List ℕ) → kept_owner new label ≡ option_or (link_to place label h.marks) (kept_owner old label))
    → HasOwners ids old hs → HasOwners (ids ++ id_of place ∷ []) new (hs ++ h ∷ [])
noted ids old new hs h place e p owned has =
    let more : identified (hs ++ h ∷ []) ≡ identified hs ++ h ∷ [] = identified-push hs h true (sym e) in
    let n : length (ids_upto (length (identified hs))) ≡ length (identified hs) = length-map-range_with_len id_of 0 (length (identified hs)) in
    let at : place ≡ length (identified hs) = p ∙ ap length has.ids_are ∙ n in
    let count : length (identified (hs ++ h ∷ [])) ≡ length (identified hs) + 1 = ap length more ∙ length-append (identified hs) (h ∷ []) in
    record {
      ids_are =
          (λ i. has.ids_are i ++ id_of (at i) ∷ [])
          ∙ sym (map-range_with_len_more id_of 0 (length (identified hs)) (length (identified hs)) (omega arith))
          ∙ sym (ap ids_upto count);
      owners_are = λ label.
          owned label
          ∙ (λ i. option_or (link_to (at i) label h.marks) (has.owners_are label i))
          ∙ sym (owner_from-push 0 (identified hs) h label ∙ (let z : 0 + length (identified hs) ≡ length (identified hs) = omega arith in ap (λ (m : ℕ). option_or (link_to m label h.marks) (owner_in hs label)) z))
          ∙ sym (ap (λ l. owner_from 0 l label) more);
    }

pub not_noted : (ids : List (List ℕ)) (owners : Owners) (hs : List Head) (h : Head) → false ≡ h.identified → HasOwners ids owners hs → HasOwners ids owners (hs ++ h ∷ [])
not_noted ids owners hs h e has =
    let same : identified (hs ++ h ∷ []) ≡ identified hs = identified-push hs h false (sym e) ∙ append-nil (identified hs) in
    record {
      ids_are = has.ids_are ∙ sym (ap (λ l. ids_upto (length l)) same);
      owners_are = λ label. has.owners_are label ∙ sym (ap (λ l. owner_from 0 l label) same);
    }

-- one mark more

abbrev at_place : ℕ → Mark → Link
at_place place m = record { owner = place; number = m.number }

link_by : (b : Bool) (place : ℕ) (m : Mark) (rest : Option Mark) → option_map (at_place place) (cond b (Some m) rest) ≡ (if b then Some (at_place place m) else option_map (at_place place) rest)
link_by true place m rest = refl
link_by false place m rest = refl

link_to-push : (place : ℕ) (label : List ℕ) (marks : List Mark) (m : Mark) → link_to place label (marks ++ m ∷ []) ≡ (if text_eq m.label label then Some (at_place place m) else link_to place label marks)
link_to-push place label marks m =
    ap (λ l. option_map (at_place place) (find (λ x. text_eq x.label label) l)) (reverse-append marks (m ∷ []))
    ∙ link_by (text_eq m.label label) place m (mark_of label marks)

later_by : (b : Bool) (link : Link) (mine old : Option Link) → (if b then Some link else option_or mine old) ≡ option_or (if b then Some link else mine) old
later_by true link mine old = refl
later_by false link mine old = refl

pub owned_more : (place : ℕ) (labels : List Tag) (i : ℕ) (d : Tag) (first old new : List ℕ → Option Link) → i < length labels
    → ((label : List ℕ) → old label ≡ option_or (link_to place label (map plain_mark (take i labels))) (first label))
    → ((label : List ℕ) → new label ≡ (if text_eq (get_or labels i d).label.now label then Some (record { owner = place; number = (get_or labels i d).number.now }) else old label))
    → (label : List ℕ) → new label ≡ option_or (link_to place label (map plain_mark (take (i + 1) labels))) (first label)
owned_more place labels i d first old new l before now label =
    let tag : Tag = get_or labels i d in
    now label
    ∙ ap (λ o. if text_eq tag.label.now label then Some (at_place place (plain_mark tag)) else o) (before label)
    ∙ later_by (text_eq tag.label.now label) (at_place place (plain_mark tag)) (link_to place label (map plain_mark (take i labels))) (first label)
    ∙ sym (ap (λ o. option_or o (first label)) (ap (λ x. link_to place label (map plain_mark x)) (take_more labels i d l) ∙ ap (link_to place label) (map-append plain_mark (take i labels) (tag ∷ [])) ∙ link_to-push place label (map plain_mark (take i labels)) (plain_mark tag)))

pub owned_all : (place : ℕ) (labels : List Tag) (i : ℕ) (first new : List ℕ → Option Link) → length labels ≤ i
    → ((label : List ℕ) → new label ≡ option_or (link_to place label (map plain_mark (take i labels))) (first label))
    → (label : List ℕ) → new label ≡ option_or (link_to place label (map plain_mark labels)) (first label)
owned_all place labels i first new l now label = now label ∙ ap (λ x. option_or (link_to place label (map plain_mark x)) (first label)) (take_all i labels l)

-- ids

pub length-ids_upto : (n : ℕ) → length (ids_upto n) ≡ n
length-ids_upto n = length-map-range_with_len id_of 0 n

pub id_at : (n at : ℕ) (ids : List (List ℕ)) (id : List ℕ) → ids ≡ ids_upto n → at < n → id ≡ get_or ids at id → id ≡ id_of at
id_at n at ids id e l h = h ∙ ap (λ x. get_or x at id) e ∙ get_or-map-range_with_len id_of 0 n at at id l (omega arith)

-- an owner has one of the ids

later_within : (place n : ℕ) (a b : Option Link) → ((link : Link) → a ≡ Some link → link.owner < n) → ((link : Link) → b ≡ Some link → link.owner < n) → (link : Link) → option_or a b ≡ Some link → link.owner < n
later_within place n None b f g link h = g link h
later_within place n (Some l) b f g link h = f link h

to_within : (place n : ℕ) (o : Option Mark) → place < n → (link : Link) → option_map (at_place place) o ≡ Some link → link.owner < n
to_within place n None l link h = absurd (cc)
to_within place n (Some m) l link h = let z : at_place place m ≡ link = cc in subst (λ (x : Link). x.owner < n) z l

owner_within : (place : ℕ) (hs : List Head) (label : List ℕ) (link : Link) → owner_from place hs label ≡ Some link → link.owner < place + length hs
owner_within place [] label link h = absurd (cc)
owner_within place (x ∷ hs) label link h = later_within place (place + suc (length hs)) (owner_from (place + 1) hs label) (link_to place label x.marks)
    (λ l e. let k = owner_within (place + 1) hs label l e in omega (arith, k))
    (λ l e. to_within place (place + suc (length hs)) (mark_of label x.marks) (omega arith) l e) link h

link_in_within : (hs : List Head) (o : Option (List ℕ)) (link : Link) → option_and_then (owner_in hs) o ≡ Some link → link.owner < length (identified hs)
link_in_within hs None link h = absurd (cc)
link_in_within hs (Some label) link h = let k = owner_within 0 (identified hs) label link h in omega (arith, k)

links_within : (hs xs : List Head) (at : ℕ) (link : Link) → unwrap_or (slice_get (map (link_in hs) xs) at) None ≡ Some link → link.owner < length (identified hs)
links_within hs [] at link h = absurd (cc)
links_within hs (x ∷ xs) zero link h = link_in_within hs x.target link h
links_within hs (x ∷ xs) (suc at) link h = links_within hs xs at link h

pub link_within : (l : LinkedTree) (at : ℕ) (link : Link) → link_at l at ≡ Some link → link.owner < ids_in l
link_within l at link h = links_within (elements_of l) (placed l.reference (elements_of l)) at link h
