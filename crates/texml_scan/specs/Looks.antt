-- What a quantity is read from: looks, each a token with the quantity that it begins, or the end.
use Rattle.std.specs.Prelude.{ℕ, ◌+◌, ◌-◌, Bool, false, not, if◌then◌else◌, nat_lt, nat_le, ◌==◌, ◌&&◌, ◌||◌, Option, Some, None}
use Rattle.texml_token.specs.declared.category.TheConstants.{SPACE, LETTER, OTHER}
use Rattle.texml_scan.specs.declared.characters.TheConstants.{DOUBLE_QUOTE, SINGLE_QUOTE, PLUS_SIGN, MINUS_SIGN, ZERO, NINE, CAPITAL_A, CAPITAL_F, BACKQUOTE}
use Rattle.texml_scan.specs.declared.looks.Quantity.{Quantity}
use Rattle.texml_scan.specs.declared.looks.Quantity.TheVariants.{Plain, Unread, Int, Dimen, Glue}
use Rattle.texml_scan.specs.declared.looks.Look.{Look}
use Rattle.texml_scan.specs.declared.looks.Look.TheVariants.{End, Character, Other}
use Rattle.texml_scan.specs.declared.looks.Start.{Start}
use Rattle.texml_scan.specs.declared.looks.Start.TheVariants as start
use Rattle.texml_scan.specs.declared.looks.Turn.{Turn}
use Rattle.texml_scan.specs.declared.looks.Turn.TheVariants.{On, Stop}

abbrev pub is_space : Look → Bool
is_space End = false
is_space (Character c k) = k == SPACE
is_space (Other c q) = false

-- 0 to 9 of category other, and for hexadecimals capitals A to F of category letter or other
abbrev pub digit_code : ℕ → ℕ → ℕ → Option ℕ
digit_code radix c k =
    if k == OTHER && nat_le ZERO c && nat_le c NINE && nat_lt (c - ZERO) radix then Some (c - ZERO)
    else if radix == 16 && (k == LETTER || k == OTHER) && nat_le CAPITAL_A c && nat_le c CAPITAL_F then Some (c - CAPITAL_A + 10)
    else None

abbrev pub digit_of : ℕ → Look → Option ℕ
digit_of radix End = None
digit_of radix (Character c k) = digit_code radix c k
digit_of radix (Other c q) = None

-- a space and + change nothing, - turns the sign
abbrev pub sign_code : Bool → ℕ → ℕ → Turn Bool
sign_code negative c k =
    if k == SPACE || (k == OTHER && c == PLUS_SIGN) then On negative
    else if k == OTHER && c == MINUS_SIGN then On (not negative)
    else Stop

abbrev pub sign_turn : Bool → Look → Turn Bool
sign_turn negative End = Stop
sign_turn negative (Character c k) = sign_code negative c k
sign_turn negative (Other c q) = Stop

-- what a number begins with: a digit, ' for octal, " for hexadecimal, a backquote, or a quantity
abbrev pub start_code : ℕ → ℕ → Start
start_code c k =
    if not (k == OTHER) then start.Other
    else if c == SINGLE_QUOTE then start.Radix 8
    else if c == DOUBLE_QUOTE then start.Radix 16
    else if c == BACKQUOTE then start.Quote
    else if nat_le ZERO c && nat_le c NINE then start.Digit (c - ZERO)
    else start.Other

-- glue counts as its width, and a dimension as its number of scaled points
abbrev pub start_quantity : Quantity → Start
start_quantity Plain = start.Other
start_quantity Unread = start.Unread
start_quantity (Int i) = start.Known i
start_quantity (Dimen d) = start.Known d.0
start_quantity (Glue g) = start.Known g.width.0

abbrev pub start_of : Look → Start
start_of End = start.Other
start_of (Character c k) = start_code c k
start_of (Other c q) = start_quantity q

-- the code that a backquote before it gives
abbrev pub code_of : Look → Option ℕ
code_of End = None
code_of (Character c k) = Some c
code_of (Other c q) = c
