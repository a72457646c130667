-- How large a tree is: the measure of a walk through it.
use Rattle.std.proofs.Common.{arith, ◌≡◌, ap, ℕ, zero, suc, ◌+◌, ◌<◌, ◌≤◌, List, [], ◌∷◌, length, get_or}
use Rattle.texml_tree.specs.declared.tree.Node.{Node}
use Rattle.texml_tree.specs.Tree.{Head, Tree, Trees, text, element, none, more}
use Rattle.texml_tree.specs.Plain.{plain}
use Rattle.texml_html.proofs.Going.{plains}

abbrev mutual
  pub weight : Tree → ℕ
  weight (text t) = 0
  weight (element h kids) = suc (weight_in kids)

  pub weight_in : Trees → ℕ
  weight_in none = 0
  weight_in (more t ts) = weight t + weight_in ts

child_weight : (nodes : List Node) (i : ℕ) (x : Node) → i < length nodes → x ≡ get_or nodes i x → weight (plain x) ≤ weight_in (plains nodes)
child_weight (y ∷ nodes) zero x n e = let k : weight (plain x) ≡ weight (plain y) = ap (λ z. weight (plain z)) e in omega (arith, k)
child_weight (y ∷ nodes) (suc i) x n e = let k = child_weight nodes i x (omega (arith, n)) e in omega (arith, k)
child_weight [] i x n e = absurd (omega (arith, n))

pub child_lighter : (nodes : List Node) (i : ℕ) (x : Node) (h : Head) (t : Tree) → i < length nodes → x ≡ get_or nodes i x → t ≡ element h (plains nodes) → weight (plain x) < weight t
child_lighter nodes i x h t n e whole = let k = child_weight nodes i x n e in let w : weight t ≡ suc (weight_in (plains nodes)) = ap weight whole in omega (arith, k, w)
