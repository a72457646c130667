-- The definitions computed.
use Rattle.std.proofs.Common.{◌≡◌, ◌+◌, ℕ, pos, [], ◌∷◌, Some, None, codes, refl}
use Rattle.texml_token.specs.Token.{Token, Char, Param}
use Rattle.texml_token.specs.declared.pieces.PieceOf.TheVariants.{Just, Slot}
use Rattle.texml_token.specs.declared.fault_code.TheConstants.{BAD_PARAMETER, MISSING_BRACE}
use Rattle.texml_expand.specs.declared.feeding.Verdict.TheVariants.{TooShort, Yields, Refuses}
use Rattle.texml_token.specs.Token.{Named, Active}
use Rattle.texml_scope.specs.World.{new_world}
use Rattle.texml_assign.specs.Parameters.{head, text_of, body_of}
use Rattle.texml_assign.specs.NewIf.{part_in}
use Rattle.texml_assign.specs.Letters.{code_or, token_in}
use Rattle.texml_assign.specs.declared.letters.Case.TheVariants.{Small, Capital}

abbrev mark : Token
mark = Char 35 6

abbrev brace : Token
brace = Char 123 1

abbrev letter : Token
letter = Char 120 11

abbrev number : ℕ → Token
number n = Char (48 + n) 12

-- x#1.#2{
text : text_of (letter ∷ mark ∷ number 1 ∷ Char 46 12 ∷ mark ∷ number 2 ∷ brace ∷ []) ≡ Yields (head 2 (Just letter ∷ Slot 1 ∷ Just (Char 46 12) ∷ Slot 2 ∷ []) None)
text = refl

-- #1#{ ends with the brace
text_brace : text_of (mark ∷ number 1 ∷ mark ∷ brace ∷ []) ≡ Yields (head 1 (Slot 1 ∷ Just brace ∷ []) (Some brace))
text_brace = refl

-- #2 comes too early, and what follows it isn't looked at
text_number : text_of (mark ∷ number 2 ∷ []) ≡ Refuses BAD_PARAMETER
text_number = refl

-- a brace that ends a group
text_close : text_of (letter ∷ Char 125 2 ∷ []) ≡ Refuses MISSING_BRACE
text_close = refl

-- a parameter text without its end
text_short : text_of (letter ∷ mark ∷ []) ≡ TooShort
text_short = refl

-- ##1#1 is one parameter character, a 1, and the first parameter
body : body_of 1 (mark ∷ Char 38 6 ∷ number 1 ∷ mark ∷ number 1 ∷ []) ≡ Some (Char 38 6 ∷ number 1 ∷ Param 1 ∷ [])
body = refl

-- there is no second parameter, and none without a number
body_number : body_of 1 (mark ∷ number 2 ∷ []) ≡ None
body_number = refl

body_end : body_of 1 (letter ∷ mark ∷ []) ≡ None
body_end = refl

-- \ifx is a conditional, and so is \if; \fi and an active character aren't
part : part_in (Named (codes "ifx")) ≡ Some (codes "x")
part = refl

part_empty : part_in (Named (codes "if")) ≡ Some []
part_empty = refl

part_other : part_in (Named (codes "fi")) ≡ None
part_other = refl

part_active : part_in (Active 126) ≡ None
part_active = refl

-- a letter has its capital and keeps its category, a digit has none, and a name stays
capital : token_in Capital new_world letter ≡ Char 88 11
capital = refl

small : token_in Small new_world letter ≡ letter
small = refl

digit_stays : token_in Capital new_world (number 1) ≡ number 1
digit_stays = refl

name_stays : token_in Capital new_world (Named (codes "x")) ≡ Named (codes "x")
name_stays = refl

code_none : code_or 65 (Some (pos 0)) ≡ 65
code_none = refl
