-- Only contracts of private functions need these: a parameter text that is read token by token.
use Rattle.std.specs.Prelude.{ℕ, ◌+◌, ◌≤◌, ◌≡◌, Bool, if◌then◌else◌, List, [], ◌∷◌, ◌++◌}
use Rattle.std.specs.List.{All}
use Rattle.texml_token.specs.Numbers.{token_at, TokenWithin, PieceWithin, OptionWithin}
use Rattle.texml_token.specs.Token.{Token}
use Rattle.texml_token.specs.declared.tokens.Token.{Token as TokenCode}
use Rattle.texml_token.specs.declared.pieces.PieceOf.{PieceOf}
use Rattle.texml_token.specs.declared.pieces.TheConstants.{MOST_PARAMETERS}
use Rattle.texml_token.specs.Pieces.{AreNumberedFrom, slots_in}
use Rattle.texml_expand.specs.declared.feeding.Verdict.{Verdict}
use Rattle.texml_expand.specs.declared.feeding.Verdict.TheVariants.{TooShort, Yields, Refuses}
use Rattle.texml_expand.specs.Feeding.{Judge}
use Rattle.texml_assign.specs.Parameters.{Head, head, marked_piece, text_from}

-- the pieces that were read, how many parameters are among them, and whether a parameter character stands behind them
pub record TextSoFar : Type 0 where
  pub pieces : List (PieceOf TokenCode)
  pub slots : ℕ
  pub marked : Bool

-- a parameter text with pieces before it
abbrev pub with_pieces : {T : Type 0} → List (PieceOf T) → Verdict (Head T) → Verdict (Head T)
with_pieces ps TooShort = TooShort
with_pieces ps (Yields h) = Yields (head h.slots (ps ++ h.pieces) h.brace)
with_pieces ps (Refuses code) = Refuses code

-- what tokens decide behind a parameter character
abbrev pub behind_mark : {T : Type 0} → (T → Token) → ℕ → List T → Verdict (Head T)
behind_mark token n [] = TooShort
behind_mark token n (t ∷ ts) = marked_piece token n t (text_from token (1 + n) ts)

abbrev pub judge_text : TextSoFar → Judge (Head TokenCode)
judge_text so_far texts list = with_pieces so_far.pieces (if so_far.marked then behind_mark (token_at texts) so_far.slots list else text_from (token_at texts) so_far.slots list)

-- so many names give every name in a parameter text, whose parameters are numbered behind so many before it
pub record HeadWithin (count before : ℕ) (h : Head TokenCode) : Type 0 where
  pub pieces : All (PieceWithin count) h.pieces
  pub numbered : AreNumberedFrom (1 + before) h.pieces
  pub slots : before + slots_in h.pieces ≡ h.slots
  pub few : h.slots ≤ MOST_PARAMETERS
  pub brace : OptionWithin (TokenWithin count) h.brace
