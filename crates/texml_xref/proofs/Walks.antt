-- The walk through a tree.
use Rattle.std.proofs.Common.{arith, ◌≡◌, ◌∙◌, ap, sym, subst, ℕ, suc, ◌+◌, ◌<◌, ◌≤◌, List, [], ◌∷◌, ◌++◌, length, map, drop, get_or, Option, append_assoc, append-nil}
use Rattle.std.proofs.lemmas.List.{map-append, length-append, drop_all}
use Rattle.std.proofs.Math.Seq.{drop-cons}
use Rattle.std.proofs.lemmas.List.Elements.{filter-append}
use Rattle.texml_tree.specs.declared.tree.Node.{Node}
use Rattle.texml_tree.specs.Tree.{Head, trees}
use Rattle.texml_tree.specs.Plain.{plain}
use Rattle.texml_xref.specs.declared.walk.Found.{Found}
use Rattle.texml_xref.specs.Refs.{heads, heads_in, is_placed, placed}
use Rattle.texml_xref.specs.Found.{targets_of, HasOwners, HasFound}

-- the elements of a list of nodes
abbrev pub heads_of : List Node → List Head
heads_of nodes = heads_in (trees (map plain nodes))

pub met : (reference section : Option ℕ) (old new : Found) (hs : List Head) (h : Head)
    → (HasOwners old.ids.items old.owners hs → HasOwners new.ids.items new.owners (hs ++ h ∷ []))
    → targets_of new.targets.items ≡ targets_of old.targets.items ++ map (λ x. x.target) (placed reference (h ∷ []))
    → new.sections ≡ old.sections + length (placed section (h ∷ []))
    → HasFound reference section old hs → HasFound reference section new (hs ++ h ∷ [])
met reference section old new hs h owners targets sections has = record {
  owners_are = owners has.owners_are;
  targets_are =
      targets ∙ ap (λ l. l ++ map (λ x. x.target) (placed reference (h ∷ []))) has.targets_are
      ∙ sym (map-append (λ x. x.target) (placed reference hs) (placed reference (h ∷ [])))
      ∙ sym (ap (map (λ x. x.target)) (filter-append (is_placed reference) hs (h ∷ [])));
  sections_are =
      sections ∙ ap (λ (n : ℕ). n + length (placed section (h ∷ []))) has.sections_are
      ∙ sym (length-append (placed section hs) (placed section (h ∷ [])))
      ∙ sym (ap length (filter-append (is_placed section) hs (h ∷ [])));
}

-- The walk has met these elements of a node, and the others are those of the nodes that are left.
pub record IsThere (reference section : Option ℕ) (found : Found) (hs all : List Head) (left : List Node) : Type 0 where
  pub done : List Head
  pub has : HasFound reference section found (hs ++ done)
  pub rest : done ++ heads_of left ≡ all

pub goes_on : (reference section : Option ℕ) (old new : Found) (hs all : List Head) (nodes : List Node) (i : ℕ) (child : Node) → i < length nodes → child ≡ get_or nodes i child
    → ((xs : List Head) → HasFound reference section old xs → HasFound reference section new (xs ++ heads (plain child)))
    → IsThere reference section old hs all (drop i nodes) → IsThere reference section new hs all (drop (i + 1) nodes)
goes_on reference section old new hs all nodes i child l e step there =
    let here : drop i nodes ≡ child ∷ drop (i + 1) nodes = (let next : suc i ≡ i + 1 = omega arith in drop-cons nodes i child l ∙ (λ k. sym e k ∷ drop (next k) nodes)) in
    record {
      done = there.done ++ heads (plain child);
      has = subst (HasFound reference section new) (append_assoc hs there.done (heads (plain child))) (step (hs ++ there.done) there.has);
      rest = append_assoc there.done (heads (plain child)) (heads_of (drop (i + 1) nodes)) ∙ sym (ap (λ l. there.done ++ heads_of l) here) ∙ there.rest;
    }

pub arrived : (reference section : Option ℕ) (found : Found) (hs all : List Head) (nodes : List Node) (i : ℕ) → length nodes ≤ i → IsThere reference section found hs all (drop i nodes) → HasFound reference section found (hs ++ all)
arrived reference section found hs all nodes i l there =
    let none : drop i nodes ≡ [] = drop_all i nodes l in
    let whole : there.done ≡ all = sym (append-nil there.done) ∙ sym (ap (λ l. there.done ++ heads_of l) none) ∙ there.rest in
    subst (λ (x : List Head). HasFound reference section found (hs ++ x)) whole there.has
