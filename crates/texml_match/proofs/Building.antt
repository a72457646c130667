-- A parameter text with one piece more.
use Rattle.std.proofs.Common.{◌≡◌, ◌+◌, ℕ, suc, List, [], ◌∷◌, ◌++◌, refl, sym, ap, ◌∙◌, arith}
use Rattle.texml_token.specs.declared.pieces.PieceOf.{PieceOf}
use Rattle.texml_token.specs.declared.pieces.PieceOf.TheVariants.{Just, Slot}
use Rattle.texml_token.specs.Pieces.{slots_in, AreNumberedFrom}

module _ {T : Type 0} where
  pub slots_just : (ps : List (PieceOf T)) (t : T) → slots_in (ps ++ Just t ∷ []) ≡ slots_in ps
  slots_just [] t = refl
  slots_just (Just u ∷ ps) t = slots_just ps t
  slots_just (Slot n ∷ ps) t = ap (λ k. 1 + k) (slots_just ps t)

  pub slots_slot : (ps : List (PieceOf T)) (n : ℕ) → slots_in (ps ++ Slot n ∷ []) ≡ slots_in ps + 1
  slots_slot [] n = refl
  slots_slot (Just u ∷ ps) n = slots_slot ps n
  slots_slot (Slot m ∷ ps) n = omega (arith, slots_slot ps n)

  pub numbered_just : (ps : List (PieceOf T)) (t : T) (k : ℕ) → AreNumberedFrom k ps → AreNumberedFrom k (ps ++ Just t ∷ [])
  numbered_just [] t k h = tt
  numbered_just (Just u ∷ ps) t k h = numbered_just ps t k h
  numbered_just (Slot n ∷ ps) t k h = (h.0, numbered_just ps t (1 + k) h.1)

  pub numbered_slot : (ps : List (PieceOf T)) (n k : ℕ) → n ≡ slots_in ps + k → AreNumberedFrom k ps → AreNumberedFrom k (ps ++ Slot n ∷ [])
  numbered_slot [] n k e h = (omega (arith, e), tt)
  numbered_slot (Just u ∷ ps) n k e h = numbered_slot ps n k e h
  numbered_slot (Slot m ∷ ps) n k e h = (h.0, numbered_slot ps n (1 + k) (omega (arith, e)) h.1)
