-- The characters left.
use Rattle.std.proofs.Common.{◌≡◌, ◌≤◌, ◌<◌, ◌+◌, ℕ, List, length, drop, length-drop, Option, None, sym, subst, arith}
use Rattle.std.proofs.lemmas.List.{drop-drop}
use Rattle.texml_mouth.specs.Inside.{left}

pub some_left : (front : Option ℕ) (line : List ℕ) (place : ℕ) → front ≡ None → 1 ≤ length (left front line place) → place < length line
some_left front line place none some =
    let h : 1 ≤ length (drop place line) = subst (λ f. 1 ≤ length (left f line place)) none some in omega (arith, length-drop place line)

pub left_one : (front : Option ℕ) (line : List ℕ) (place : ℕ) → front ≡ None → left front line (place + 1) ≡ drop 1 (left front line place)
left_one front line place none =
    subst (λ f. left f line (place + 1) ≡ drop 1 (left f line place)) (sym none) (sym (drop-drop 1 place line))
