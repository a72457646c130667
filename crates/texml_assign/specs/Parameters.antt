-- Parameter texts, and bodies with parameters in them (The TeXbook, chapter 20), by what a token T is.
use Rattle.std.specs.Prelude.{ℕ, ◌+◌, ◌-◌, ◌==◌, ◌&&◌, nat_le, Bool, false, if◌then◌else◌, List, [], ◌∷◌, Option, None, Some, option_map}
use Rattle.texml_token.specs.Token.{Token, Char, Param, has_category}
use Rattle.texml_token.specs.Numbers.{Table, token_at, pieces_at}
use Rattle.texml_token.specs.declared.tokens.Token.{Token as TokenCode}
use Rattle.texml_token.specs.declared.pieces.PieceOf.{PieceOf}
use Rattle.texml_token.specs.declared.pieces.PieceOf.TheVariants.{Just, Slot}
use Rattle.texml_token.specs.declared.category.TheConstants.{BEGIN_GROUP, END_GROUP, PARAMETER, OTHER}
use Rattle.texml_token.specs.declared.fault_code.TheConstants.{BAD_PARAMETER, MISSING_BRACE}
use Rattle.texml_expand.specs.declared.feeding.Verdict.{Verdict}
use Rattle.texml_expand.specs.declared.feeding.Verdict.TheVariants.{TooShort, Yields, Refuses}
use Rattle.texml_assign.specs.declared.parameters.HeadOf.{HeadOf}

-- the digit that a token is: a character from 0 to 9 of category 12
abbrev pub digit : Token → Option ℕ
digit (Char c category) = if category == OTHER && nat_le 48 c && nat_le c 57 then Some (c - 48) else None
digit t = None

abbrev pub is_number : ℕ → Option ℕ → Bool
is_number n None = false
is_number n (Some d) = d == n

-- a parameter text: its pieces, how many parameters are among them, and the brace that ends it where that is its last piece too
abbrev pub Head : Type 0 → Type 0
Head T = HeadOf T (List (PieceOf T))

-- a parameter text that ends here, behind so many parameters
abbrev pub head : {T : Type 0} → ℕ → List (PieceOf T) → Option T → Head T
head slots pieces brace = record { slots = slots; pieces = pieces; brace = brace }

-- a parameter text with a piece before it
abbrev pub with_piece : {T : Type 0} → PieceOf T → Verdict (Head T) → Verdict (Head T)
with_piece p TooShort = TooShort
with_piece p (Yields h) = Yields (head h.slots (p ∷ h.pieces) h.brace)
with_piece p (Refuses code) = Refuses code

module _ {T : Type 0} (token : T → Token) where
  abbrev pub is_mark : T → Bool
  is_mark t = has_category PARAMETER (token t)

  -- a token that is no parameter character: the brace behind the parameter text, one that may not stand there, or a piece
  abbrev pub plain_piece : ℕ → T → Verdict (Head T) → Verdict (Head T)
  plain_piece n t onward =
      if has_category BEGIN_GROUP (token t) then Yields (head n [] None)
      else if has_category END_GROUP (token t) then Refuses MISSING_BRACE
      else with_piece (Just t) onward

  -- what stands behind a parameter character: the brace behind the parameter text, which is its last piece then, or the number of the next parameter
  abbrev pub marked_piece : ℕ → T → Verdict (Head T) → Verdict (Head T)
  marked_piece n t onward =
      if has_category BEGIN_GROUP (token t) then Yields (head n (Just t ∷ []) (Some t))
      else if is_number (1 + n) (digit (token t)) then with_piece (Slot (1 + n)) onward
      else Refuses BAD_PARAMETER

  -- what tokens decide of a parameter text, behind so many parameters
  abbrev pub text_from : ℕ → List T → Verdict (Head T)
  text_from n [] = TooShort
  text_from n (t ∷ []) = if is_mark t then TooShort else plain_piece n t TooShort
  text_from n (t ∷ u ∷ ts) = if is_mark t then marked_piece n u (text_from (1 + n) ts) else plain_piece n t (text_from n (u ∷ ts))

-- of tokens by their texts
abbrev pub text_of : List Token → Verdict (Head Token)
text_of = text_from (λ t. t) 0

-- what a parameter text of the code stands for
abbrev pub head_at : Table → Head TokenCode → Head Token
head_at texts h = head h.slots (pieces_at texts h.pieces) (option_map (token_at texts) h.brace)

-- Bodies

-- the place of a parameter, where there are so many
abbrev pub place : ℕ → Option ℕ → Option Token
place slots None = None
place slots (Some d) = if nat_le 1 d && nat_le d slots then Some (Param d) else None

-- what a parameter character and the token behind it are: that token where it is another parameter character, or the place of a parameter
abbrev pub marked_token : ℕ → Token → Option Token
marked_token slots t = if has_category PARAMETER t then Some t else place slots (digit t)

abbrev pub with_first : Option Token → Option (List Token) → Option (List Token)
with_first None list = None
with_first (Some t) None = None
with_first (Some t) (Some list) = Some (t ∷ list)

-- the body that tokens are for a macro with so many parameters; none where something else stands behind a parameter character
abbrev pub body_of : ℕ → List Token → Option (List Token)
body_of slots [] = Some []
body_of slots (t ∷ []) = if has_category PARAMETER t then None else Some (t ∷ [])
body_of slots (t ∷ u ∷ ts) = if has_category PARAMETER t then with_first (marked_token slots u) (body_of slots ts) else with_first (Some t) (body_of slots (u ∷ ts))
