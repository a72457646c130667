-- Taking spaces away from the last child.
use Rattle.std.proofs.Common.{◌≡◌, ◌∙◌, ap, sym, refl, List, [], ◌∷◌, ◌++◌, map}
use Rattle.std.proofs.lemmas.List.{map-append, append-nil}
use Rattle.texml_tree.specs.declared.tree.Node.{Node}
use Rattle.texml_tree.specs.Tree.{Tree}
use Rattle.texml_tree.specs.Plain.{plain}
use Rattle.texml_build.specs.Trim.{trim_last, trim_after, trim_one}

last_after : (y : Tree) (xs : List Tree) (x : Tree) → trim_after y (xs ++ x ∷ []) ≡ y ∷ xs ++ trim_one x
last_after y [] x = refl
last_after y (z ∷ zs) x = ap (λ l. y ∷ l) (last_after z zs x)

last_of : (xs : List Tree) (x : Tree) → trim_last (xs ++ x ∷ []) ≡ xs ++ trim_one x
last_of [] x = refl
last_of (y ∷ ys) x = last_after y ys x

last_node : (old front : List Node) (n : Node) → old ≡ front ++ n ∷ [] → trim_last (map plain old) ≡ map plain front ++ trim_one (plain n)
last_node old front n e = ap (λ l. trim_last (map plain l)) e ∙ ap trim_last (map-append plain front (n ∷ [])) ∙ last_of (map plain front) (plain n)

-- nothing is left of the last child
pub last_gone : (old front : List Node) (n : Node) → old ≡ front ++ n ∷ [] → trim_one (plain n) ≡ [] → map plain front ≡ trim_last (map plain old)
last_gone old front n e p = sym (last_node old front n e ∙ ap (λ x. map plain front ++ x) p ∙ append-nil (map plain front))

-- another node stands for the last child
pub last_kept : (old front new : List Node) (n m : Node) → old ≡ front ++ n ∷ [] → new ≡ front ++ m ∷ [] → trim_one (plain n) ≡ plain m ∷ [] → map plain new ≡ trim_last (map plain old)
last_kept old front new n m e f p = ap (map plain) f ∙ map-append plain front (m ∷ []) ∙ sym (last_node old front n e ∙ ap (λ x. map plain front ++ x) p)
