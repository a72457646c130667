-- Whether two meanings are the same: macros by whether they are long, their parameter texts and bodies, others by what they are (The TeXbook, chapter 20).
use Rattle.std.specs.Prelude.{Bool, true, false, nat_eq, ◌&&◌, List, Option, None, Some}
use Rattle.std.specs.Cmp.Lexicographic.{pointwise}
use Rattle.texml_token.specs.Token.{Token, token_eq}
use Rattle.texml_token.specs.declared.pieces.PieceOf.{PieceOf}
use Rattle.texml_token.specs.declared.pieces.PieceOf.TheVariants.{Just, Slot}
use Rattle.texml_token.specs.Pieces.{Params}
use Rattle.texml_scope.specs.declared.values.MeaningOf.TheVariants as meanings
use Rattle.texml_scope.specs.Texts.{Meaning, MacroText, key_eq}

abbrev pub list_eq : List Token → List Token → Bool
list_eq = pointwise token_eq

abbrev pub piece_eq : PieceOf Token → PieceOf Token → Bool
piece_eq (Just t) (Just u) = token_eq t u
piece_eq (Slot m) (Slot n) = nat_eq m n
piece_eq p q = false

abbrev pub default_eq : Option (List Token) → Option (List Token) → Bool
default_eq None None = true
default_eq (Some a) (Some b) = list_eq a b
default_eq a b = false

abbrev pub params_eq : Params Token → Params Token → Bool
params_eq p q = default_eq p.default q.default && pointwise piece_eq p.pieces q.pieces

abbrev pub long_eq : Bool → Bool → Bool
long_eq true true = true
long_eq false false = true
long_eq a b = false

abbrev pub macro_eq : MacroText → MacroText → Bool
macro_eq m n = long_eq m.long n.long && params_eq m.params n.params && list_eq m.body n.body

abbrev pub meaning_eq : Meaning → Meaning → Bool
meaning_eq meanings.Undefined meanings.Undefined = true
meaning_eq (meanings.Macro m) (meanings.Macro n) = macro_eq m n
meaning_eq (meanings.Builtin p) (meanings.Builtin q) = nat_eq p q
meaning_eq (meanings.Char c k) (meanings.Char d l) = nat_eq c d && nat_eq k l
meaning_eq (meanings.Quantity j) (meanings.Quantity k) = key_eq j k
meaning_eq (meanings.Number m) (meanings.Number n) = nat_eq m n
meaning_eq (meanings.Constructor m) (meanings.Constructor n) = nat_eq m n
meaning_eq m n = false
