-- Quantities lie within the bounds.
use Rattle.std.proofs.Common.{◌==◌, ◌||◌, ◌-◌, nat_le, le→leb, ◌≡◌, ◌∙◌, sym, ap, refl, arith, ℕ, ◌≤◌, ◌<◌, ◌*◌, ◌+◌, zero, suc, rules, nat_lt, Bool, true, false, not, ◌&&◌, if◌then◌else◌, int_le, int_lt, Option, Some, None, List, [], ◌∷◌, Result, Ok, Err, pos, negsuc, neg_ℤ, ℤ, unsigned_abs, codes}
use Rattle.std.proofs.lemmas.Bool.Decides.{nat_tests}
use Rattle.texml_fixed.specs.declared.fault.NumFault.{NumFault}
use Rattle.texml_fixed.specs.declared.fault.NumFault.TheVariants.{TooBig as NumTooBig, TooLarge as NumTooLarge}
use Rattle.texml_fixed.specs.declared.arithmetic.TheConstants.{MAX_NUMBER}
use Rattle.texml_fixed.specs.declared.scaled.Scaled.{Scaled}
use Rattle.texml_fixed.specs.declared.glue.Amount.{Amount}
use Rattle.texml_fixed.specs.declared.glue.Order.{Order}
use Rattle.texml_fixed.specs.declared.glue.Glue.{Glue}
use Rattle.texml_fixed.specs.declared.unit.Unit.{Unit as UnitName}
use Rattle.texml_fixed.specs.declared.unit.Unit.TheVariants as unit
use Rattle.texml_fixed.specs.Arithmetic.{bounded, IsWithin}
use Rattle.texml_fixed.specs.Glue.{glue_of, IsGlueWithin}
use Rattle.texml_fixed.specs.Units.{measured, turned, amount as amount_of}
use Rattle.texml_scan.specs.declared.looks.Look.{Look}
use Rattle.texml_scan.specs.declared.looks.Look.TheVariants.{End, Character, Other}
use Rattle.texml_token.specs.declared.category.TheConstants.{LETTER, OTHER}
use Rattle.texml_scan.specs.declared.characters.TheConstants.{DOUBLE_QUOTE, SINGLE_QUOTE, ZERO, NINE, CAPITAL_A, CAPITAL_F, BACKQUOTE}
use Rattle.texml_scan.specs.declared.looks.Quantity.{Quantity}
use Rattle.texml_scan.specs.declared.looks.Quantity.TheVariants as quantity
use Rattle.texml_scan.specs.declared.looks.Turn.{Turn}
use Rattle.texml_scan.specs.declared.looks.Turn.TheVariants.{On, Stop, Bad}
use Rattle.texml_scan.specs.declared.looks.Start.{Start}
use Rattle.texml_scan.specs.declared.looks.Start.TheVariants as start
use Rattle.texml_scan.specs.declared.units.Opening.{Opening}
use Rattle.texml_scan.specs.declared.units.Opening.TheVariants as opening
use Rattle.texml_scan.specs.declared.units.Mark.{Mark}
use Rattle.texml_scan.specs.declared.units.Mark.TheVariants as mark
use Rattle.texml_scan.specs.declared.steps.ScanFault.{ScanFault}
use Rattle.texml_scan.specs.declared.steps.ScanFault.TheVariants.{TooBig, TooLarge, IllegalUnit}
use Rattle.texml_scan.specs.Looks.{is_space, digit_of, sign_turn, start_of, start_quantity, code_of}
use Rattle.texml_scan.specs.Grammar.{Text, Read, Wants, Gives, Fails, behind, ◌>>=◌, give, fail, while, Verdict, Wanting, Decided, Faulty, verdict}
use Rattle.texml_scan.specs.Number.{signed, is_within, one_space, known, grown, digit_more, digit_turn, digits, first_by, first_digit, quoted_by, quoted, begun, unsigned, number}
use Rattle.texml_scan.specs.Keyword.{is_letter, spaces, keyword}
use Rattle.texml_scan.specs.Measure.{Measure, with_sign, unless_too_large, exactly, fil_turn, fils, in_unit, found, second, true_mark, true_first, true_unit, filled, marked, unit_first, units, decimal_turn, fraction, point, decimal, factor, known_factor, known_dimension, opened, unsigned_measure, measure_from, measure, with_width, dimension, amount, unit_of, letter_of, begins_true_unit, mark_of, opening_of, is_point}
use Rattle.texml_scan.specs.Glue.{plus, minus, minus_then, shrunk, plus_then, stretched, known_glue, glue_opened, internal_glue, unsigned_glue, glue, is_glue_within, signed_glue, nothing}

-- what is given, where something is
abbrev pub OnGiven : {A : Type 0} → (A → Type 0) → Read A → Type 0
OnGiven P (Wants w) = Unit {0}
OnGiven P (Gives a left) = P a
OnGiven P (Fails f) = Unit {0}

abbrev pub Giving : {A : Type 0} → (A → Type 0) → Text A → Type 0
Giving P text = (xs : List Look) → OnGiven P (text xs)

behind_gives : {A B : Type 0} (P : A → Type 0) (Q : B → Type 0) (r : Read A) (next : A → Text B) → OnGiven P r → ((a : A) → P a → Giving Q (next a)) → OnGiven Q (behind r next)
behind_gives P Q (Wants w) next h k = tt
behind_gives P Q (Gives a left) next h k = k a h left
behind_gives P Q (Fails f) next h k = tt

abbrev Any : {A : Type 0} → A → Type 0
Any a = Unit {0}

any_given : {A : Type 0} (r : Read A) → OnGiven Any r
any_given (Wants w) = tt
any_given (Gives a left) = tt
any_given (Fails f) = tt

-- whatever comes first
behind_any : {A B : Type 0} (Q : B → Type 0) (r : Read A) (next : A → Text B) → ((a : A) → Giving Q (next a)) → OnGiven Q (behind r next)
behind_any Q r next k = behind_gives Any Q r next (any_given r) (λ a _. k a)

if_gives : {A : Type 0} (P : A → Type 0) (b : Bool) (r s : Read A) → OnGiven P r → OnGiven P s → OnGiven P (if b then r else s)
if_gives P true r s h k = h
if_gives P false r s h k = k

-- a text, or a fault
or_fails : {A : Type 0} (P : A → Type 0) (f : ScanFault) (b : Bool) (text : Text A) → (b ≡ true → Giving P text) → Giving P (if b then text else fail f)
or_fails P f true text h = h refl
or_fails P f false text h = λ xs. tt

-- what each turn keeps
turn_gives : {S : Type 0} (P : S → Type 0) (turn : S → Look → Turn S) (s : S) (x : Look) (xs : List Look) (t : Turn S) → P s → ((next : S) → t ≡ On next → OnGiven P (while turn next xs))
    → OnGiven P (elim t as (λ _. Read S) [ On next ↦ while turn next xs | Stop ↦ Gives s (x ∷ xs) | Bad f ↦ Fails f ])
turn_gives P turn s x xs (On next) h k = k next refl
turn_gives P turn s x xs Stop h k = h
turn_gives P turn s x xs (Bad f) h k = tt

while_gives : {S : Type 0} (P : S → Type 0) (turn : S → Look → Turn S) → ((s next : S) (x : Look) → P s → turn s x ≡ On next → P next) → (s : S) → P s → Giving P (while turn s)
while_gives P turn keeps s h [] = tt
while_gives P turn keeps s h (x ∷ xs) = turn_gives P turn s x xs (turn s x) h (λ next e. while_gives P turn keeps next (keeps s next x h e) xs)

-- Numbers

one_space_gives : {A : Type 0} (P : A → Type 0) (a : A) → P a → Giving P (one_space a)
one_space_gives P a h [] = tt
one_space_gives P a h (x ∷ xs) = if_gives P (is_space x) (Gives a xs) (Gives a (x ∷ xs)) h h

within_pos : (n : ℕ) → IsWithin (pos n)
within_pos n = record { le = tt }

within_neg : (n : ℕ) → n ≤ 2147483647 → IsWithin (neg_ℤ (pos n))
within_neg zero h = record { le = tt }
within_neg (suc n) h = record { le = le→leb n 2147483646 (omega (arith, h)) }

pub within_signed : (negative : Bool) (n : ℕ) → n ≤ 2147483647 → IsWithin (signed negative (pos n))
within_signed true n h = within_neg n h
within_signed false n h = within_pos n

within_tested : (i : ℤ) → is_within i ≡ true → IsWithin i
within_tested (pos n) h = within_pos n
within_tested (negsuc n) h = record { le = search (rules, nat_tests, h) }

small_tested : (n : ℕ) → is_within (pos n) ≡ true → n ≤ 2147483647
small_tested n h = grind (arith, nat_tests, h)

-- digits are small
abbrev IsSmall : Option ℕ → Type 0
IsSmall None = Unit {0}
IsSmall (Some d) = d ≤ 2147483647

if_small : (b : Bool) (x y : Option ℕ) → (b ≡ true → IsSmall x) → IsSmall y → IsSmall (if b then x else y)
if_small true x y h k = h refl
if_small false x y h k = k

digit_small : (radix : ℕ) (x : Look) → IsSmall (digit_of radix x)
digit_small radix End = tt
digit_small radix (Other c q) = tt
digit_small radix (Character c k) =
    if_small (k == OTHER && nat_le ZERO c && nat_le c NINE && nat_lt (c - ZERO) radix) (Some (c - ZERO)) (if radix == 16 && (k == LETTER || k == OTHER) && nat_le CAPITAL_A c && nat_le c CAPITAL_F then Some (c - CAPITAL_A + 10) else None)
    (λ h. grind (arith, nat_tests, h))
    (if_small (radix == 16 && (k == LETTER || k == OTHER) && nat_le CAPITAL_A c && nat_le c CAPITAL_F) (Some (c - CAPITAL_A + 10)) None (λ h. grind (arith, nat_tests, h)) tt)

grown_small : (n m : ℕ) (b : Bool) → (b ≡ true → n ≤ 2147483647) → grown (if b then Ok (pos n) else Err NumTooBig) ≡ On m → m ≤ 2147483647
grown_small n m true h e = let same : n ≡ m = cc in omega (arith, same, h refl)
grown_small n m false h e = absurd cc

more_small : (radix n m : ℕ) (d : Option ℕ) → digit_more radix n d ≡ On m → m ≤ 2147483647
more_small radix n m None e = absurd cc
more_small radix n m (Some d) e = grown_small (n * radix + d) m (int_le (neg_ℤ MAX_NUMBER) (pos (n * radix + d)) && int_le (pos (n * radix + d)) MAX_NUMBER) (small_tested (n * radix + d)) e

digits_give : (negative : Bool) (radix n : ℕ) → n ≤ 2147483647 → Giving IsWithin (digits negative radix n)
digits_give negative radix n h xs =
    behind_gives (λ m. m ≤ 2147483647) IsWithin (while (digit_turn radix) n xs) (λ m. one_space (signed negative (pos m)))
    (while_gives (λ m. m ≤ 2147483647) (digit_turn radix) (λ s next x _ e. more_small radix s next (digit_of radix x) e) n h xs)
    (λ m le. one_space_gives IsWithin (signed negative (pos m)) (within_signed negative m le))

first_by_gives : (negative : Bool) (radix : ℕ) (d : Option ℕ) → IsSmall d → Giving IsWithin (first_by negative radix d)
first_by_gives negative radix None h xs = tt
first_by_gives negative radix (Some d) h xs = digits_give negative radix d h xs

first_digit_gives : (negative : Bool) (radix : ℕ) → Giving IsWithin (first_digit negative radix)
first_digit_gives negative radix [] = tt
first_digit_gives negative radix (x ∷ xs) = first_by_gives negative radix (digit_of radix x) (digit_small radix x) xs

quoted_by_gives : (negative : Bool) (code : Option ℕ) → Giving IsWithin (quoted_by negative code)
quoted_by_gives negative None xs = tt
quoted_by_gives negative (Some c) xs =
    or_fails IsWithin TooBig (is_within (pos c)) (one_space (signed negative (pos c))) (λ h. one_space_gives IsWithin (signed negative (pos c)) (within_signed negative c (small_tested c h))) xs

quoted_gives : (negative : Bool) → Giving IsWithin (quoted negative)
quoted_gives negative [] = tt
quoted_gives negative (x ∷ xs) = quoted_by_gives negative (code_of x) xs

known_gives : (negative : Bool) (i : ℤ) → Giving IsWithin (known negative i)
known_gives negative i = or_fails IsWithin TooBig (is_within (signed negative i)) (give (signed negative i)) (λ h xs. within_tested (signed negative i) h)

-- what a number begins with, where it is a digit
abbrev IsSmallStart : Start → Type 0
IsSmallStart (start.Digit d) = d ≤ 2147483647
IsSmallStart s = Unit {0}

if_start : (b : Bool) (x y : Start) → (b ≡ true → IsSmallStart x) → IsSmallStart y → IsSmallStart (if b then x else y)
if_start true x y h k = h refl
if_start false x y h k = k

quantity_small : (q : Quantity) → IsSmallStart (start_quantity q)
quantity_small quantity.Plain = tt
quantity_small quantity.Unread = tt
quantity_small (quantity.Int i) = tt
quantity_small (quantity.Dimen d) = tt
quantity_small (quantity.Glue g) = tt

start_small : (x : Look) → IsSmallStart (start_of x)
start_small End = tt
start_small (Other c q) = quantity_small q
start_small (Character c k) =
    if_start (not (k == OTHER)) start.Other _ (λ _. tt)
    (if_start (c == SINGLE_QUOTE) (start.Radix 8) _ (λ _. tt)
    (if_start (c == DOUBLE_QUOTE) (start.Radix 16) _ (λ _. tt)
    (if_start (c == BACKQUOTE) start.Quote _ (λ _. tt)
    (if_start (nat_le ZERO c && nat_le c NINE) (start.Digit (c - ZERO)) start.Other (λ h. grind (arith, nat_tests, h)) tt))))

begun_gives : (negative : Bool) (s : Start) → IsSmallStart s → Giving IsWithin (begun negative s)
begun_gives negative (start.Digit d) h = digits_give negative 10 d h
begun_gives negative (start.Radix radix) h = first_digit_gives negative radix
begun_gives negative start.Quote h = quoted_gives negative
begun_gives negative (start.Known i) h = known_gives negative i
begun_gives negative start.Unread h = λ xs. tt
begun_gives negative start.Other h = λ xs. tt

unsigned_gives : (negative : Bool) → Giving IsWithin (unsigned negative)
unsigned_gives negative [] = tt
unsigned_gives negative (x ∷ xs) = begun_gives negative (start_of x) (start_small x) xs

pub number_gives : Giving IsWithin number
number_gives xs = behind_any IsWithin (while sign_turn false xs) unsigned unsigned_gives

-- Dimensions

abbrev pub IsAmountWithin : Amount → Type 0
IsAmountWithin a = IsWithin a.value.0

abbrev pub IsScaledWithin : Scaled → Type 0
IsScaledWithin d = IsWithin d.0

abbrev OkWithin : Result Scaled ScanFault → Type 0
OkWithin (Ok d) = IsScaledWithin d
OkWithin (Err f) = Unit {0}

-- a sign behind a sign
within_turned : (negative b : Bool) (n : ℕ) → n ≤ 2147483647 → IsWithin (signed negative (if b then neg_ℤ (pos n) else pos n))
within_turned negative false n h = within_signed negative n h
within_turned false true n h = within_neg n h
within_turned true true zero h = within_pos 0
within_turned true true (suc n) h = within_pos (suc n)

in_unit_within : (negative : Bool) (u : UnitName) (n : ℕ) → n < 1073741824 → IsWithin (signed negative (turned u n))
in_unit_within negative (unit.Own own) n h = within_turned negative (int_lt own.0 (pos 0)) n (omega (arith, h))
in_unit_within negative u n h = within_signed negative n (omega (arith, h))

measured_within : (negative : Bool) (u : UnitName) (n : ℕ) (b : Bool) → (b ≡ true → n < 1073741824) → OkWithin (with_sign negative (if b then Ok (record { 0 = turned u n }) else Err NumTooLarge))
measured_within negative u n true h = in_unit_within negative u n (h refl)
measured_within negative u n false h = tt

unit_within : (m : Measure) (u : UnitName) → OkWithin (in_unit m u)
unit_within m u =
    let n = amount_of m.whole m.decimals u in
    measured_within m.negative u n (nat_lt n 1073741824) (λ h. grind (arith, nat_tests, h))

unless_gives : {A : Type 0} (P : A → Type 0) (r : Result Scaled ScanFault) (next : Scaled → Text A) → OkWithin r → ((d : Scaled) → IsScaledWithin d → Giving P (next d)) → Giving P (unless_too_large r next)
unless_gives P (Ok d) next h k = k d h
unless_gives P (Err f) next h k = λ xs. tt

exactly_gives : {A : Type 0} (P : A → Type 0) (cs : List ℕ) (next : Text A) → Giving P next → Giving P (exactly cs next)
exactly_gives P [] next h xs = h xs
exactly_gives P (c ∷ cs) next h [] = tt
exactly_gives P (c ∷ cs) next h (x ∷ xs) = if_gives P (is_letter c x) (exactly cs next xs) (Fails IllegalUnit) (exactly_gives P cs next h xs) tt

fils_give : (d : Scaled) (o : Order) → IsScaledWithin d → Giving IsAmountWithin (fils d o)
fils_give d o h xs = behind_any IsAmountWithin (while fil_turn o xs) (λ last. give (amount d last)) (λ last xs. h)

found_gives : (m : Measure) (u : Option UnitName) → Giving IsAmountWithin (found m u)
found_gives m None = λ xs. tt
found_gives m (Some u) = unless_gives IsAmountWithin (in_unit m u) (λ d. one_space (amount d _)) (unit_within m u) (λ d h. one_space_gives IsAmountWithin (amount d _) h)

second_gives : (m : Measure) (c : ℕ) → Giving IsAmountWithin (second m c)
second_gives m c [] = tt
second_gives m c (x ∷ xs) = found_gives m (unit_of c (letter_of x)) xs

true_mark_gives : (m : Measure) (c : ℕ) (b : Bool) → Giving IsAmountWithin (true_mark m c b)
true_mark_gives m c true = second_gives m c
true_mark_gives m c false = λ xs. tt

true_first_gives : (m : Measure) → Giving IsAmountWithin (true_first m)
true_first_gives m [] = tt
true_first_gives m (x ∷ xs) = true_mark_gives m (letter_of x) (begins_true_unit (letter_of x)) xs

true_unit_gives : (m : Measure) → Giving IsAmountWithin (true_unit m)
true_unit_gives m xs = behind_any IsAmountWithin (spaces xs) (λ _. true_first m) (λ _. true_first_gives m)

filled_gives : (m : Measure) → Giving IsAmountWithin (filled m)
filled_gives m = unless_gives IsAmountWithin (in_unit m unit.Pt) (λ d. fils d _) (unit_within m unit.Pt) (λ d. fils_give d _)

marked_gives : (m : Measure) (k : Mark) → Giving IsAmountWithin (marked m k)
marked_gives m mark.True = exactly_gives IsAmountWithin (codes "rue") (true_unit m) (true_unit_gives m)
marked_gives m mark.Fil = exactly_gives IsAmountWithin (codes "il") (filled m) (filled_gives m)
marked_gives m (mark.Letter c) = second_gives m c
marked_gives m (mark.Own v) = unless_gives IsAmountWithin (in_unit m (unit.Own v)) (λ d. give (amount d _)) (unit_within m (unit.Own v)) (λ d h xs. h)
marked_gives m mark.Unread = λ xs. tt
marked_gives m mark.Other = λ xs. tt

unit_first_gives : (m : Measure) → Giving IsAmountWithin (unit_first m)
unit_first_gives m [] = tt
unit_first_gives m (x ∷ xs) = marked_gives m (mark_of m.fil x) xs

units_give : (m : Measure) → Giving IsAmountWithin (units m)
units_give m xs = behind_any IsAmountWithin (spaces xs) (λ _. unit_first m) (λ _. unit_first_gives m)

fraction_gives : (fil negative : Bool) (whole : ℕ) (ds : List ℕ) → Giving IsAmountWithin (fraction fil negative whole ds)
fraction_gives fil negative whole ds xs = behind_any IsAmountWithin (while decimal_turn ds xs) _ (λ decimals. units_give (record { fil = fil; negative = negative; whole = whole; decimals = decimals }))

point_gives : (fil negative : Bool) (whole : ℕ) → Giving IsAmountWithin (point fil negative whole)
point_gives fil negative whole [] = tt
point_gives fil negative whole (x ∷ xs) =
    if_gives IsAmountWithin (is_point x) (fraction fil negative whole [] xs) (units (record { fil = fil; negative = negative; whole = whole; decimals = [] }) (x ∷ xs))
    (fraction_gives fil negative whole [] xs) (units_give (record { fil = fil; negative = negative; whole = whole; decimals = [] }) (x ∷ xs))

decimal_gives : (fil negative : Bool) (n : ℕ) → Giving IsAmountWithin (decimal fil negative n)
decimal_gives fil negative n xs = behind_any IsAmountWithin (while (digit_turn 10) n xs) (point fil negative) (point_gives fil negative)

factor_gives : (fil negative : Bool) (i : ℤ) → Giving IsAmountWithin (factor fil negative i)
factor_gives fil negative (pos n) = units_give (record { fil = fil; negative = negative; whole = n; decimals = [] })
factor_gives fil negative (negsuc n) = units_give (record { fil = fil; negative = not negative; whole = suc n; decimals = [] })

opened_gives : (fil negative : Bool) (o : Opening) (x : Look) → Giving IsAmountWithin (opened fil negative o x)
opened_gives fil negative (opening.Digit d) x xs = decimal_gives fil negative d xs
opened_gives fil negative opening.Point x xs = fraction_gives fil negative 0 [] xs
opened_gives fil negative opening.Number x xs = behind_any IsAmountWithin (number (x ∷ xs)) (factor fil negative) (factor_gives fil negative)
opened_gives fil negative (opening.Factor i) x xs = or_fails IsAmountWithin TooBig (is_within i) (factor fil negative i) (λ _. factor_gives fil negative i) xs
opened_gives fil negative (opening.Length d) x xs = or_fails IsAmountWithin TooLarge (is_within (signed negative d.0)) (give _) (λ h xs. within_tested (signed negative d.0) h) xs
opened_gives fil negative opening.Unread x xs = tt
opened_gives fil negative opening.Other x xs = tt

unsigned_measure_gives : (fil negative : Bool) → Giving IsAmountWithin (unsigned_measure fil negative)
unsigned_measure_gives fil negative [] = tt
unsigned_measure_gives fil negative (x ∷ xs) = opened_gives fil negative (opening_of x) x xs

measure_from_gives : (fil negative : Bool) → Giving IsAmountWithin (measure_from fil negative)
measure_from_gives fil negative xs = behind_any IsAmountWithin (while sign_turn negative xs) (unsigned_measure fil) (unsigned_measure_gives fil)

pub dimension_gives : Giving IsScaledWithin dimension
dimension_gives xs = behind_gives IsAmountWithin IsScaledWithin (measure false xs) (λ a. give a.value) (measure_from_gives false false xs) (λ a h xs. h)

-- Glue

nothing_within : IsAmountWithin nothing
nothing_within = within_pos 0

minus_then_gives : (w : Scaled) (a : Amount) (b : Bool) → IsScaledWithin w → IsAmountWithin a → Giving IsGlueWithin (minus_then w a b)
minus_then_gives w a true h k xs = behind_gives IsAmountWithin IsGlueWithin (measure true xs) (λ b. give (glue_of w a b)) (measure_from_gives true false xs) (λ b m xs. (h, k, m))
minus_then_gives w a false h k xs = (h, k, nothing_within)

shrunk_gives : (w : Scaled) (a : Amount) → IsScaledWithin w → IsAmountWithin a → Giving IsGlueWithin (shrunk w a)
shrunk_gives w a h k xs = behind_any IsGlueWithin (keyword minus xs) (minus_then w a) (λ b. minus_then_gives w a b h k)

plus_then_gives : (w : Scaled) (b : Bool) → IsScaledWithin w → Giving IsGlueWithin (plus_then w b)
plus_then_gives w true h xs = behind_gives IsAmountWithin IsGlueWithin (measure true xs) (shrunk w) (measure_from_gives true false xs) (λ a k. shrunk_gives w a h k)
plus_then_gives w false h xs = shrunk_gives w nothing h nothing_within xs

stretched_gives : (a : Amount) → IsAmountWithin a → Giving IsGlueWithin (stretched a)
stretched_gives a h xs = behind_any IsGlueWithin (keyword plus xs) (plus_then a.value) (λ b. plus_then_gives a.value b h)

-- three tests
three_within : (w a b : ℤ) → (is_within w && is_within a && is_within b) ≡ true → IsWithin w × IsWithin a × IsWithin b
three_within w a b h = (within_tested w (search (rules, h)), within_tested a (search (rules, h)), within_tested b (search (rules, h)))

glue_opened_gives : (negative : Bool) (g : Option Glue) (x : Look) → Giving IsGlueWithin (glue_opened negative g x)
glue_opened_gives negative (Some g) x xs =
    let turned = signed_glue negative g in
    or_fails IsGlueWithin TooLarge (is_glue_within turned) (give turned) (λ h xs. three_within turned.width.0 turned.stretch.0 turned.shrink.0 h) xs
glue_opened_gives negative None x xs = behind_gives IsAmountWithin IsGlueWithin (measure_from false negative (x ∷ xs)) stretched (measure_from_gives false negative (x ∷ xs)) stretched_gives

unsigned_glue_gives : (negative : Bool) → Giving IsGlueWithin (unsigned_glue negative)
unsigned_glue_gives negative [] = tt
unsigned_glue_gives negative (x ∷ xs) = glue_opened_gives negative (internal_glue x) x xs

pub glue_gives : Giving IsGlueWithin glue
glue_gives xs = behind_any IsGlueWithin (while sign_turn false xs) unsigned_glue unsigned_glue_gives
