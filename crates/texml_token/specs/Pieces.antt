-- Parameter texts of macros (The TeXbook, chapter 20), by what a token T is.
use Rattle.std.specs.Prelude.{◌≡◌, ◌≤◌, ◌+◌, ℕ, List, [], ◌∷◌, map, Option, None, Some, option_map}
use Rattle.texml_token.specs.declared.pieces.PieceOf.{PieceOf}
pub use Rattle.texml_token.specs.declared.pieces.PieceOf.TheVariants.{Just, Slot}
use Rattle.texml_token.specs.declared.pieces.ParamsOf.{ParamsOf}
use Rattle.texml_token.specs.declared.pieces.TheConstants.{MOST_PARAMETERS}

abbrev pub Params : Type 0 → Type 0
Params T = ParamsOf (List T) (List (PieceOf T))

-- a macro without parameters
abbrev pub no_params : {T : Type 0} → Params T
no_params = record { default = None; pieces = [] }

-- the number of parameters
abbrev pub slots_in : {T : Type 0} → List (PieceOf T) → ℕ
slots_in [] = 0
slots_in (Just t ∷ ps) = slots_in ps
slots_in (Slot n ∷ ps) = 1 + slots_in ps

-- the parameters are numbered in order, from this number on
abbrev pub AreNumberedFrom : {T : Type 0} → ℕ → List (PieceOf T) → Type 0
AreNumberedFrom number [] = Unit {0}
AreNumberedFrom number (Just t ∷ ps) = AreNumberedFrom number ps
AreNumberedFrom number (Slot n ∷ ps) = (n ≡ number) × AreNumberedFrom (1 + number) ps

-- the first piece is a parameter
abbrev pub BeginsWithSlot : {T : Type 0} → List (PieceOf T) → Type 0
BeginsWithSlot [] = ⊥
BeginsWithSlot (Just t ∷ ps) = ⊥
BeginsWithSlot (Slot n ∷ ps) = Unit {0}

-- a default is one of the first argument, with which the parameter text begins
abbrev pub DefaultFits : {T : Type 0} → Option (List T) → List (PieceOf T) → Type 0
DefaultFits None ps = Unit {0}
DefaultFits (Some list) ps = BeginsWithSlot ps

-- at most nine parameters stand in the order of their numbers, from 1 on, and a default has its place
pub record IsParameterText {T : Type 0} (p : Params T) : Type 0 where
  pub numbered : AreNumberedFrom 1 p.pieces
  pub few : slots_in p.pieces ≤ MOST_PARAMETERS
  pub default : DefaultFits p.default p.pieces

-- the same by other tokens
module _ {T U : Type 0} (token : T → U) where
  abbrev pub map_piece : PieceOf T → PieceOf U
  map_piece (Just t) = Just (token t)
  map_piece (Slot n) = Slot n

  abbrev pub map_params : Params T → Params U
  map_params p = record { default = option_map (map token) p.default; pieces = map map_piece p.pieces }
