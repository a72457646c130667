-- Dimensions, and amounts of stretch and shrink (The TeXbook, chapter 24).
use Rattle.std.specs.Prelude.{ℕ, ℤ, pos, negsuc, suc, ◌+◌, ◌-◌, slice_index, Bool, true, false, not, List, [], ◌∷◌, ◌++◌, length, Option, Some, None, Result, Ok, Err, if◌then◌else◌, nat_le, nat_lt, ◌==◌, ◌&&◌, ◌||◌, codes}
use Rattle.texml_scan.specs.declared.looks.Look.{Look}
use Rattle.texml_scan.specs.declared.looks.Look.TheVariants.{End, Character, Other}
use Rattle.texml_scan.specs.declared.looks.Quantity.{Quantity}
use Rattle.texml_scan.specs.declared.looks.Quantity.TheVariants.{Plain, Unread, Int, Dimen, Glue}
use Rattle.texml_fixed.specs.declared.glue.Order.{Order}
use Rattle.texml_fixed.specs.declared.scaled.Scaled.{Scaled}
use Rattle.texml_fixed.specs.declared.glue.Order.TheVariants as order
use Rattle.texml_scan.specs.declared.looks.Turn.{Turn}
use Rattle.texml_scan.specs.declared.looks.Turn.TheVariants.{On, Stop, Bad}
use Rattle.texml_fixed.specs.declared.unit.Unit.{Unit as UnitName}
use Rattle.texml_fixed.specs.declared.unit.Unit.TheVariants as unit
use Rattle.texml_scan.specs.declared.units.Opening.{Opening}
use Rattle.texml_scan.specs.declared.units.Opening.TheVariants as opening
use Rattle.texml_scan.specs.declared.units.Mark.{Mark}
use Rattle.texml_scan.specs.declared.units.Mark.TheVariants as mark
use Rattle.texml_fixed.specs.declared.glue.Amount.{Amount}
use Rattle.texml_scan.specs.declared.steps.ScanFault.{ScanFault}
use Rattle.texml_scan.specs.declared.steps.ScanFault.TheVariants.{MissingNumber, TooBig, TooLarge, IllegalUnit}
use Rattle.std.specs.List.{list_any}
use Rattle.texml_fixed.specs.Units.{measured}
use Rattle.texml_fixed.specs.declared.fault.NumFault.{NumFault}
use Rattle.texml_token.specs.declared.category.TheConstants.{OTHER}
use Rattle.texml_scan.specs.declared.characters.TheConstants.{SINGLE_QUOTE, DOUBLE_QUOTE, COMMA, POINT, ZERO, NINE, CAPITAL_A, CAPITAL_Z, BACKQUOTE, SMALL_A, SMALL_Z}
use Rattle.texml_scan.specs.Looks.{is_space, digit_of, sign_turn}
use Rattle.texml_scan.specs.Grammar.{Text, Read, Wants, Fails, Expanded, Asked, behind, ◌>>=◌, ◌>>◌, give, fail, while}
use Rattle.texml_scan.specs.Number.{signed, is_within, one_space, digit_turn, number}
use Rattle.texml_scan.specs.Keyword.{is_letter, spaces}

-- what a dimension begins with, behind its signs: a digit, a point or comma, another number, or a quantity
abbrev pub opening_code : ℕ → ℕ → Opening
opening_code c k =
    if not (k == OTHER) then opening.Other
    else if c == POINT || c == COMMA then opening.Point
    else if c == SINGLE_QUOTE || c == DOUBLE_QUOTE || c == BACKQUOTE then opening.Number
    else if nat_le ZERO c && nat_le c NINE then opening.Digit (c - ZERO)
    else opening.Other

abbrev pub opening_quantity : Quantity → Opening
opening_quantity Plain = opening.Other
opening_quantity Unread = opening.Unread
opening_quantity (Int i) = opening.Factor i
opening_quantity (Dimen d) = opening.Length d
opening_quantity (Glue g) = opening.Length g.width

abbrev pub opening_of : Look → Opening
opening_of End = opening.Other
opening_of (Character c k) = opening_code c k
opening_of (Other c q) = opening_quantity q

abbrev pub is_point : Look → Bool
is_point End = false
is_point (Character c k) = k == OTHER && (c == POINT || c == COMMA)
is_point (Other c q) = false

-- an ASCII letter in either case, as the small one; 0 where it is none
abbrev pub small : ℕ → ℕ
small c =
    if nat_le SMALL_A c && nat_le c SMALL_Z then c
    else if nat_le CAPITAL_A c && nat_le c CAPITAL_Z then c + 32
    else 0

abbrev pub letter_of : Look → ℕ
letter_of End = 0
letter_of (Character c k) = small c
letter_of (Other c q) = 0

-- two letters are this word
abbrev pub reads : ℕ → ℕ → List ℕ → Bool
reads c d word = c == slice_index word 0 && d == slice_index word 1

abbrev pub unit_of : ℕ → ℕ → Option UnitName
unit_of c d =
    if reads c d (codes "em") then Some unit.Em
    else if reads c d (codes "ex") then Some unit.Ex
    else if reads c d (codes "pt") then Some unit.Pt
    else if reads c d (codes "in") then Some unit.In
    else if reads c d (codes "pc") then Some unit.Pc
    else if reads c d (codes "cm") then Some unit.Cm
    else if reads c d (codes "mm") then Some unit.Mm
    else if reads c d (codes "bp") then Some unit.Bp
    else if reads c d (codes "dd") then Some unit.Dd
    else if reads c d (codes "cc") then Some unit.Cc
    else if reads c d (codes "sp") then Some unit.Sp
    else None

-- the letters that begin units; em and ex may not stand behind `true`
abbrev pub begins_true_unit : ℕ → Bool
begins_true_unit c = list_any (λ letter. c == letter) (codes "picmbds")

-- what a unit begins with: `true` and, where they may stand, `fil` and its kin, a letter of a unit, or a quantity
abbrev pub mark_letter : Bool → ℕ → Mark
mark_letter fil c =
    if c == slice_index (codes "t") 0 then mark.True
    else if fil && c == slice_index (codes "f") 0 then mark.Fil
    else if c == slice_index (codes "e") 0 || begins_true_unit c then mark.Letter c
    else mark.Other

abbrev pub mark_quantity : Quantity → Mark
mark_quantity Plain = mark.Other
mark_quantity Unread = mark.Unread
mark_quantity (Int i) = mark.Own (record { 0 = i })
mark_quantity (Dimen d) = mark.Own d
mark_quantity (Glue g) = mark.Own g.width

abbrev pub mark_of : Bool → Look → Mark
mark_of fil End = mark.Other
mark_of fil (Character c k) = mark_letter fil (small c)
mark_of fil (Other c q) = mark_quantity q

-- a dimension without sign, with this one
abbrev pub signed_dimension : Bool → Scaled → Scaled
signed_dimension negative d = record { 0 = signed negative d.0 }

abbrev pub with_sign : Bool → Result Scaled NumFault → Result Scaled ScanFault
with_sign negative (Ok d) = Ok (signed_dimension negative d)
with_sign negative (Err fault) = Err TooLarge

abbrev pub amount : Scaled → Order → Amount
amount value o = record { value = value; order = o }

-- an amount, if it isn't too large, and what comes behind it
abbrev pub unless_too_large : {A : Type 0} → Result Scaled ScanFault → (Scaled → Text A) → Text A
unless_too_large (Ok value) next = next value
unless_too_large (Err f) next = fail f

-- the letters of a word, all of them, and what comes behind it
abbrev pub exactly : {A : Type 0} → List ℕ → Text A → Text A
exactly [] next xs = next xs
exactly (c ∷ cs) next [] = Wants Expanded
exactly (c ∷ cs) next (x ∷ xs) = if is_letter c x then exactly cs next xs else Fails IllegalUnit

-- a further l behind fil, perhaps behind spaces
abbrev pub next_order : Order → Turn Order
next_order order.Pt = On order.Fil
next_order order.Fil = On order.Fill
next_order order.Fill = On order.Filll
next_order order.Filll = Bad IllegalUnit

abbrev pub fil_turn : Order → Look → Turn Order
fil_turn o x = if is_space x then On o else if is_letter (slice_index (codes "l") 0) x then next_order o else Stop

abbrev pub fils : Scaled → Order → Text Amount
fils value o = do
  last ← while fil_turn o
  give (amount value last)

-- what is being measured: may it be fil, the sign, the number, and the digits behind the point
pub record Measure : Type 0 where
  pub fil : Bool
  pub negative : Bool
  pub whole : ℕ
  pub decimals : List ℕ

abbrev pub in_unit : Measure → UnitName → Result Scaled ScanFault
in_unit m u = with_sign m.negative (measured m.whole m.decimals u)

abbrev pub found : Measure → Option UnitName → Text Amount
found m None = fail IllegalUnit
found m (Some u) = unless_too_large (in_unit m u) (λ value. one_space (amount value order.Pt))

-- the second letter of a unit
abbrev pub second : Measure → ℕ → Text Amount
second m c [] = Wants Expanded
second m c (x ∷ xs) = found m (unit_of c (letter_of x)) xs

abbrev pub true_mark : Measure → ℕ → Bool → Text Amount
true_mark m c true = second m c
true_mark m c false = fail IllegalUnit

abbrev pub true_first : Measure → Text Amount
true_first m [] = Wants Expanded
true_first m (x ∷ xs) = true_mark m (letter_of x) (begins_true_unit (letter_of x)) xs

-- a unit behind `true`
abbrev pub true_unit : Measure → Text Amount
true_unit m = do
  spaces
  true_first m

abbrev pub filled : Measure → Text Amount
filled m = unless_too_large (in_unit m unit.Pt) (λ value. fils value order.Fil)

abbrev pub marked : Measure → Mark → Text Amount
marked m mark.True = exactly (codes "rue") (true_unit m)
marked m mark.Fil = exactly (codes "il") (filled m)
marked m (mark.Letter c) = second m c
marked m (mark.Own v) = unless_too_large (in_unit m (unit.Own v)) (λ value. give (amount value order.Pt))
marked m mark.Unread = λ xs. Wants Asked
marked m mark.Other = fail IllegalUnit

abbrev pub unit_first : Measure → Text Amount
unit_first m [] = Wants Expanded
unit_first m (x ∷ xs) = marked m (mark_of m.fil x) xs

-- a unit
abbrev pub units : Measure → Text Amount
units m = do
  spaces
  unit_first m

-- the digits behind the point, of which only 17 count
abbrev pub with_decimal : List ℕ → ℕ → List ℕ
with_decimal ds d = if nat_lt (length ds) 17 then ds ++ d ∷ [] else ds

abbrev pub decimal_more : List ℕ → Option ℕ → Turn (List ℕ)
decimal_more ds None = Stop
decimal_more ds (Some d) = On (with_decimal ds d)

abbrev pub decimal_turn : List ℕ → Look → Turn (List ℕ)
decimal_turn ds x = decimal_more ds (digit_of 10 x)

abbrev pub fraction : Bool → Bool → ℕ → List ℕ → Text Amount
fraction fil negative whole ds = do
  decimals ← while decimal_turn ds
  units (record { fil = fil; negative = negative; whole = whole; decimals = decimals })

abbrev pub point : Bool → Bool → ℕ → Text Amount
point fil negative whole [] = Wants Expanded
point fil negative whole (x ∷ xs) =
    if is_point x then fraction fil negative whole [] xs
    else units (record { fil = fil; negative = negative; whole = whole; decimals = [] }) (x ∷ xs)

-- digits, perhaps a point and more digits, and a unit
abbrev pub decimal : Bool → Bool → ℕ → Text Amount
decimal fil negative n = do
  whole ← while (digit_turn 10) n
  point fil negative whole

-- an internal number as a factor turns the sign where it is negative
abbrev pub factor : Bool → Bool → ℤ → Text Amount
factor fil negative (pos n) = units (record { fil = fil; negative = negative; whole = n; decimals = [] })
factor fil negative (negsuc n) = units (record { fil = fil; negative = not negative; whole = suc n; decimals = [] })

-- an internal number as a factor, unless it passes the bound
abbrev pub known_factor : Bool → Bool → ℤ → Text Amount
known_factor fil negative i = if is_within i then factor fil negative i else fail TooBig

-- an internal dimension, unless it passes the bound
abbrev pub known_dimension : Bool → Scaled → Text Amount
known_dimension negative d = if is_within (signed negative d.0) then give (amount (signed_dimension negative d) order.Pt) else fail TooLarge

-- a dimension without its signs, by what it begins with; the first look is given too
abbrev pub opened : Bool → Bool → Opening → Look → Text Amount
opened fil negative (opening.Digit d) x = decimal fil negative d
opened fil negative opening.Point x = fraction fil negative 0 []
opened fil negative opening.Number x = λ xs. (number >>= factor fil negative) (x ∷ xs)
opened fil negative (opening.Factor i) x = known_factor fil negative i
opened fil negative (opening.Length d) x = known_dimension negative d
opened fil negative opening.Unread x = λ xs. Wants Asked
opened fil negative opening.Other x = fail MissingNumber

abbrev pub unsigned_measure : Bool → Bool → Text Amount
unsigned_measure fil negative [] = Wants Expanded
unsigned_measure fil negative (x ∷ xs) = opened fil negative (opening_of x) x xs

-- signs, and a dimension without them; or, where it may be one, an amount of fil
abbrev pub measure_from : Bool → Bool → Text Amount
measure_from fil negative = do
  sign ← while sign_turn negative
  unsigned_measure fil sign

abbrev pub measure : Bool → Text Amount
measure fil = measure_from fil false

-- a dimension, which can't be fil
abbrev pub with_width : Read Amount → Read Scaled
with_width r = behind r (λ a. give a.value)

abbrev pub dimension : Text Scaled
dimension xs = with_width (measure false xs)
