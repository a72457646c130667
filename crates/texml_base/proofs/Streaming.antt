-- What a writer took of a piece.
use Rattle.std.proofs.Common.{◌≡◌, ℕ, List, ◌++◌, take, drop, sym, ap, ◌∙◌, subst, append_assoc, take-append-drop}
use Rattle.std.specs.declared.option.Option.{Option}
use Rattle.std.specs.Io.KnownBytes.{Appends}
use Rattle.std.proofs.KnownBytes.{Appends-trans}
use Rattle.texml_base.proofs.Taking.{cut_later}

-- a first part of a piece was taken, and then a first part of the rest
pub taken_front : (old mid new : Option (List ℕ)) (piece done rest : List ℕ) (n : ℕ) → piece ≡ done ++ rest → Appends old mid done → Appends mid new (take n rest)
    → (m : ℕ) × Appends old new (take m piece)
taken_front old mid new piece done rest n split first then =
    let m = cut_later n done rest in
    (m.0, subst (Appends old new) (m.1 ∙ ap (take m.0) (sym split)) (Appends-trans old mid new done (take n rest) first then))

-- what is taken of the rest goes to what is done
pub rest_moves : (piece done rest left : List ℕ) (n : ℕ) → piece ≡ done ++ rest → left ≡ drop n rest → piece ≡ (done ++ take n rest) ++ left
rest_moves piece done rest left n split is =
    split ∙ ap (λ l. done ++ l) (sym (take-append-drop n rest)) ∙ sym (append_assoc done (take n rest) (drop n rest))
    ∙ ap (λ l. (done ++ take n rest) ++ l) (sym is)
