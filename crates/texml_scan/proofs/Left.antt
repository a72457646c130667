-- What a grammar leaves is an end of what it reads, so no more is put back than was looked at.
use Rattle.std.proofs.Common.{◌≡◌, ◌∙◌, sym, ap, refl, arith, ℕ, ◌≤◌, suc, Bool, true, false, not, if◌then◌else◌, Option, Some, None, List, [], ◌∷◌, ◌++◌, length, append_assoc, length-append, Result, Ok, Err, pos, negsuc, ℤ, codes}
use Rattle.texml_fixed.specs.declared.scaled.Scaled.{Scaled}
use Rattle.texml_fixed.specs.declared.glue.Amount.{Amount}
use Rattle.texml_fixed.specs.declared.glue.Order.{Order}
use Rattle.texml_fixed.specs.declared.glue.Glue.{Glue}
use Rattle.texml_fixed.specs.declared.unit.Unit.{Unit as UnitName}
use Rattle.texml_scan.specs.declared.looks.Look.{Look}
use Rattle.texml_scan.specs.declared.looks.Turn.{Turn}
use Rattle.texml_scan.specs.declared.looks.Turn.TheVariants.{On, Stop, Bad}
use Rattle.texml_scan.specs.declared.looks.Start.{Start}
use Rattle.texml_scan.specs.declared.looks.Start.TheVariants as start
use Rattle.texml_scan.specs.declared.units.Opening.{Opening}
use Rattle.texml_scan.specs.declared.units.Opening.TheVariants as opening
use Rattle.texml_scan.specs.declared.units.Mark.{Mark}
use Rattle.texml_scan.specs.declared.units.Mark.TheVariants as mark
use Rattle.texml_scan.specs.declared.steps.ScanFault.{ScanFault}
use Rattle.texml_scan.specs.declared.steps.ScanFault.TheVariants.{TooBig, TooLarge, IllegalUnit}
use Rattle.texml_scan.specs.Looks.{is_space, digit_of, start_of, code_of, sign_turn}
use Rattle.texml_scan.specs.Grammar.{Text, Read, Wants, Gives, Fails, behind, ◌>>=◌, give, fail, while, Decided, verdict}
use Rattle.texml_scan.specs.Number.{signed, is_within, one_space, known, digit_turn, digits, first_by, first_digit, quoted_by, quoted, begun, unsigned, number}
use Rattle.texml_scan.specs.Keyword.{is_letter, spaces, space_turn, letters, word, keyword}
use Rattle.texml_scan.specs.Measure.{Measure, unless_too_large, exactly, fil_turn, fils, in_unit, found, second, true_mark, true_first, true_unit, filled, marked, unit_first, units, decimal_turn, fraction, point, decimal, factor, known_factor, known_dimension, opened, unsigned_measure, measure_from, measure, with_width, dimension, amount, unit_of, letter_of, begins_true_unit, mark_of, opening_of, is_point}
use Rattle.texml_scan.specs.Glue.{plus, minus, minus_then, shrunk, plus_then, stretched, known_glue, glue_opened, internal_glue, unsigned_glue, glue, is_glue_within, signed_glue}

-- ---- ends of lists

abbrev pub IsEndOf : List Look → List Look → Type 0
IsEndOf left xs = (front : List Look) × (xs ≡ front ++ left)

end_refl : (xs : List Look) → IsEndOf xs xs
end_refl xs = ([], refl)

end_cons : (x : Look) (xs : List Look) → IsEndOf xs (x ∷ xs)
end_cons x xs = (x ∷ [], refl)

end_trans : {left ys xs : List Look} → IsEndOf left ys → IsEndOf ys xs → IsEndOf left xs
end_trans {left} {ys} {xs} (f, e) (g, h) = (g ++ f, h ∙ ap (λ zs. g ++ zs) e ∙ sym (append_assoc g f left))

-- what is left, where something is given, is an end
abbrev pub Leaves : {A : Type 0} → Read A → List Look → Type 0
Leaves (Wants w) xs = Unit {0}
Leaves (Gives a left) xs = IsEndOf left xs
Leaves (Fails f) xs = Unit {0}

abbrev pub LeavesAnEnd : {A : Type 0} → Text A → Type 0
LeavesAnEnd text = (xs : List Look) → Leaves (text xs) xs

leaves_later : {A : Type 0} (r : Read A) (ys xs : List Look) → Leaves r ys → IsEndOf ys xs → Leaves r xs
leaves_later (Wants w) ys xs h e = tt
leaves_later (Gives a left) ys xs h e = end_trans h e
leaves_later (Fails f) ys xs h e = tt

leaves_cons : {A : Type 0} (r : Read A) (x : Look) (xs : List Look) → Leaves r xs → Leaves r (x ∷ xs)
leaves_cons r x xs h = leaves_later r xs (x ∷ xs) h (end_cons x xs)

behind_leaves : {A B : Type 0} (r : Read A) (next : A → Text B) (xs : List Look) → Leaves r xs → ((a : A) → LeavesAnEnd (next a)) →
    Leaves (behind r next) xs
behind_leaves (Wants w) next xs h k = tt
behind_leaves (Gives a left) next xs h k = leaves_later (next a left) left xs (k a left) h
behind_leaves (Fails f) next xs h k = tt

then_leaves : {A B : Type 0} (first : Text A) (next : A → Text B) → LeavesAnEnd first → ((a : A) → LeavesAnEnd (next a)) →
    LeavesAnEnd (first >>= next)
then_leaves first next h k xs = behind_leaves (first xs) next xs (h xs) k

if_leaves : {A : Type 0} (b : Bool) (r s : Read A) (xs : List Look) → Leaves r xs → Leaves s xs → Leaves (if b then r else s) xs
if_leaves true r s xs h k = h
if_leaves false r s xs h k = k

-- a text, or a fault
or_fails : {A : Type 0} (f : ScanFault) (b : Bool) (text : Text A) → LeavesAnEnd text → LeavesAnEnd (if b then text else fail f)
or_fails f true text h = h
or_fails f false text h = λ xs. tt

turn_leaves : {S : Type 0} (turn : S → Look → Turn S) (s : S) (x : Look) (xs : List Look) (t : Turn S) → ((next : S) → Leaves (while turn next xs) xs) →
    Leaves (elim t as (λ _. Read S) [ On next ↦ while turn next xs | Stop ↦ Gives s (x ∷ xs) | Bad f ↦ Fails f ]) (x ∷ xs)
turn_leaves turn s x xs (On next) h = leaves_cons (while turn next xs) x xs (h next)
turn_leaves turn s x xs Stop h = end_refl (x ∷ xs)
turn_leaves turn s x xs (Bad f) h = tt

while_leaves : {S : Type 0} (turn : S → Look → Turn S) (s : S) → LeavesAnEnd (while turn s)
while_leaves turn s [] = tt
while_leaves turn s (x ∷ xs) = turn_leaves turn s x xs (turn s x) (λ next. while_leaves turn next xs)

-- ---- numbers

one_space_leaves : {A : Type 0} (a : A) → LeavesAnEnd (one_space a)
one_space_leaves a [] = tt
one_space_leaves a (x ∷ xs) = if_leaves (is_space x) (Gives a xs) (Gives a (x ∷ xs)) (x ∷ xs) (end_cons x xs) (end_refl (x ∷ xs))

known_leaves : (negative : Bool) (i : ℤ) → LeavesAnEnd (known negative i)
known_leaves negative i = or_fails TooBig (is_within (signed negative i)) (give (signed negative i)) (λ xs. end_refl xs)

digits_leave : (negative : Bool) (radix n : ℕ) → LeavesAnEnd (digits negative radix n)
digits_leave negative radix n =
    then_leaves (while (digit_turn radix) n) (λ m. one_space (signed negative (pos m))) (while_leaves (digit_turn radix) n)
    (λ m. one_space_leaves (signed negative (pos m)))

first_by_leaves : (negative : Bool) (radix : ℕ) (d : Option ℕ) → LeavesAnEnd (first_by negative radix d)
first_by_leaves negative radix None xs = tt
first_by_leaves negative radix (Some d) xs = digits_leave negative radix d xs

first_digit_leaves : (negative : Bool) (radix : ℕ) → LeavesAnEnd (first_digit negative radix)
first_digit_leaves negative radix [] = tt
first_digit_leaves negative radix (x ∷ xs) = leaves_cons (first_by negative radix (digit_of radix x) xs) x xs (first_by_leaves negative radix (digit_of radix x) xs)

quoted_by_leaves : (negative : Bool) (code : Option ℕ) → LeavesAnEnd (quoted_by negative code)
quoted_by_leaves negative None xs = tt
quoted_by_leaves negative (Some c) xs =
    or_fails TooBig (is_within (pos c)) (one_space (signed negative (pos c))) (one_space_leaves (signed negative (pos c))) xs

quoted_leaves : (negative : Bool) → LeavesAnEnd (quoted negative)
quoted_leaves negative [] = tt
quoted_leaves negative (x ∷ xs) = leaves_cons (quoted_by negative (code_of x) xs) x xs (quoted_by_leaves negative (code_of x) xs)

begun_leaves : (negative : Bool) (s : Start) → LeavesAnEnd (begun negative s)
begun_leaves negative (start.Digit d) = digits_leave negative 10 d
begun_leaves negative (start.Radix radix) = first_digit_leaves negative radix
begun_leaves negative start.Quote = quoted_leaves negative
begun_leaves negative (start.Known i) = known_leaves negative i
begun_leaves negative start.Unread = λ xs. tt
begun_leaves negative start.Other = λ xs. tt

unsigned_leaves : (negative : Bool) → LeavesAnEnd (unsigned negative)
unsigned_leaves negative [] = tt
unsigned_leaves negative (x ∷ xs) = leaves_cons (begun negative (start_of x) xs) x xs (begun_leaves negative (start_of x) xs)

pub number_leaves : LeavesAnEnd number
number_leaves = then_leaves (while sign_turn false) unsigned (while_leaves sign_turn false) unsigned_leaves

-- ---- keywords

letters_leave : (cs : List ℕ) (whole xs : List Look) → IsEndOf xs whole → Leaves (letters cs whole xs) whole
letters_leave [] whole xs h = h
letters_leave (c ∷ cs) whole [] h = tt
letters_leave (c ∷ cs) whole (x ∷ xs) h =
    if_leaves (is_letter c x) (letters cs whole xs) (Gives false whole) whole (letters_leave cs whole xs (end_trans (end_cons x xs) h)) (end_refl whole)

spaces_leave : LeavesAnEnd spaces
spaces_leave = while_leaves space_turn tt

pub keyword_leaves : (cs : List ℕ) → LeavesAnEnd (keyword cs)
keyword_leaves cs = then_leaves spaces (λ _. word cs) spaces_leave (λ _ xs. letters_leave cs xs xs (end_refl xs))

-- ---- dimensions

unless_leaves : {A : Type 0} (r : Result Scaled ScanFault) (next : Scaled → Text A) → ((d : Scaled) → LeavesAnEnd (next d)) →
    LeavesAnEnd (unless_too_large r next)
unless_leaves (Ok d) next h = h d
unless_leaves (Err f) next h = λ xs. tt

exactly_leaves : {A : Type 0} (cs : List ℕ) (next : Text A) → LeavesAnEnd next → LeavesAnEnd (exactly cs next)
exactly_leaves [] next h xs = h xs
exactly_leaves (c ∷ cs) next h [] = tt
exactly_leaves (c ∷ cs) next h (x ∷ xs) =
    if_leaves (is_letter c x) (exactly cs next xs) (Fails IllegalUnit) (x ∷ xs) (leaves_cons (exactly cs next xs) x xs (exactly_leaves cs next h xs)) tt

fils_leave : (d : Scaled) (o : Order) → LeavesAnEnd (fils d o)
fils_leave d o = then_leaves (while fil_turn o) (λ last. give (amount d last)) (while_leaves fil_turn o) (λ last xs. end_refl xs)

found_leaves : (m : Measure) (u : Option UnitName) → LeavesAnEnd (found m u)
found_leaves m None = λ xs. tt
found_leaves m (Some u) = unless_leaves (in_unit m u) (λ d. one_space (amount d _)) (λ d. one_space_leaves (amount d _))

second_leaves : (m : Measure) (c : ℕ) → LeavesAnEnd (second m c)
second_leaves m c [] = tt
second_leaves m c (x ∷ xs) = leaves_cons (found m (unit_of c (letter_of x)) xs) x xs (found_leaves m (unit_of c (letter_of x)) xs)

true_mark_leaves : (m : Measure) (c : ℕ) (b : Bool) → LeavesAnEnd (true_mark m c b)
true_mark_leaves m c true = second_leaves m c
true_mark_leaves m c false = λ xs. tt

true_first_leaves : (m : Measure) → LeavesAnEnd (true_first m)
true_first_leaves m [] = tt
true_first_leaves m (x ∷ xs) =
    leaves_cons (true_mark m (letter_of x) (begins_true_unit (letter_of x)) xs) x xs (true_mark_leaves m (letter_of x) (begins_true_unit (letter_of x)) xs)

true_unit_leaves : (m : Measure) → LeavesAnEnd (true_unit m)
true_unit_leaves m = then_leaves spaces (λ _. true_first m) spaces_leave (λ _. true_first_leaves m)

filled_leaves : (m : Measure) → LeavesAnEnd (filled m)
filled_leaves m = unless_leaves _ (λ d. fils d _) (λ d. fils_leave d _)

marked_leaves : (m : Measure) (k : Mark) → LeavesAnEnd (marked m k)
marked_leaves m mark.True = exactly_leaves (codes "rue") (true_unit m) (true_unit_leaves m)
marked_leaves m mark.Fil = exactly_leaves (codes "il") (filled m) (filled_leaves m)
marked_leaves m (mark.Letter c) = second_leaves m c
marked_leaves m (mark.Own v) = unless_leaves _ (λ d. give (amount d _)) (λ d xs. end_refl xs)
marked_leaves m mark.Unread = λ xs. tt
marked_leaves m mark.Other = λ xs. tt

unit_first_leaves : (m : Measure) → LeavesAnEnd (unit_first m)
unit_first_leaves m [] = tt
unit_first_leaves m (x ∷ xs) = leaves_cons (marked m (mark_of m.fil x) xs) x xs (marked_leaves m (mark_of m.fil x) xs)

units_leave : (m : Measure) → LeavesAnEnd (units m)
units_leave m = then_leaves spaces (λ _. unit_first m) spaces_leave (λ _. unit_first_leaves m)

fraction_leaves : (fil negative : Bool) (whole : ℕ) (ds : List ℕ) → LeavesAnEnd (fraction fil negative whole ds)
fraction_leaves fil negative whole ds =
    then_leaves (while decimal_turn ds) (λ decimals. units (record { fil = fil; negative = negative; whole = whole; decimals = decimals }))
    (while_leaves decimal_turn ds) (λ decimals. units_leave (record { fil = fil; negative = negative; whole = whole; decimals = decimals }))

point_leaves : (fil negative : Bool) (whole : ℕ) → LeavesAnEnd (point fil negative whole)
point_leaves fil negative whole [] = tt
point_leaves fil negative whole (x ∷ xs) =
    if_leaves (is_point x) (fraction fil negative whole [] xs) (units (record { fil = fil; negative = negative; whole = whole; decimals = [] }) (x ∷ xs)) (x ∷ xs)
    (leaves_cons (fraction fil negative whole [] xs) x xs (fraction_leaves fil negative whole [] xs))
    (units_leave (record { fil = fil; negative = negative; whole = whole; decimals = [] }) (x ∷ xs))

decimal_leaves : (fil negative : Bool) (n : ℕ) → LeavesAnEnd (decimal fil negative n)
decimal_leaves fil negative n = then_leaves (while (digit_turn 10) n) (point fil negative) (while_leaves (digit_turn 10) n) (point_leaves fil negative)

factor_leaves : (fil negative : Bool) (i : ℤ) → LeavesAnEnd (factor fil negative i)
factor_leaves fil negative (pos n) = units_leave (record { fil = fil; negative = negative; whole = n; decimals = [] })
factor_leaves fil negative (negsuc n) = units_leave (record { fil = fil; negative = not negative; whole = suc n; decimals = [] })

known_factor_leaves : (fil negative : Bool) (i : ℤ) → LeavesAnEnd (known_factor fil negative i)
known_factor_leaves fil negative i = or_fails TooBig (is_within i) (factor fil negative i) (factor_leaves fil negative i)

known_dimension_leaves : (negative : Bool) (d : Scaled) → LeavesAnEnd (known_dimension negative d)
known_dimension_leaves negative d = or_fails TooLarge (is_within (signed negative d.0)) (give _) (λ xs. end_refl xs)

opened_leaves : (fil negative : Bool) (o : Opening) (x : Look) (xs : List Look) → Leaves (opened fil negative o x xs) (x ∷ xs)
opened_leaves fil negative (opening.Digit d) x xs = leaves_cons (decimal fil negative d xs) x xs (decimal_leaves fil negative d xs)
opened_leaves fil negative opening.Point x xs = leaves_cons (fraction fil negative 0 [] xs) x xs (fraction_leaves fil negative 0 [] xs)
opened_leaves fil negative opening.Number x xs = then_leaves number (factor fil negative) number_leaves (factor_leaves fil negative) (x ∷ xs)
opened_leaves fil negative (opening.Factor i) x xs = leaves_cons (known_factor fil negative i xs) x xs (known_factor_leaves fil negative i xs)
opened_leaves fil negative (opening.Length d) x xs = leaves_cons (known_dimension negative d xs) x xs (known_dimension_leaves negative d xs)
opened_leaves fil negative opening.Unread x xs = tt
opened_leaves fil negative opening.Other x xs = tt

unsigned_measure_leaves : (fil negative : Bool) → LeavesAnEnd (unsigned_measure fil negative)
unsigned_measure_leaves fil negative [] = tt
unsigned_measure_leaves fil negative (x ∷ xs) = opened_leaves fil negative (opening_of x) x xs

measure_from_leaves : (fil negative : Bool) → LeavesAnEnd (measure_from fil negative)
measure_from_leaves fil negative = then_leaves (while sign_turn negative) (unsigned_measure fil) (while_leaves sign_turn negative) (unsigned_measure_leaves fil)

width_leaves : (r : Read Amount) (xs : List Look) → Leaves r xs → Leaves (with_width r) xs
width_leaves (Wants w) xs h = tt
width_leaves (Gives a left) xs h = h
width_leaves (Fails f) xs h = tt

pub dimension_leaves : LeavesAnEnd dimension
dimension_leaves xs = width_leaves (measure false xs) xs (measure_from_leaves false false xs)

-- ---- glue

minus_then_leaves : (w : Scaled) (a : Amount) (b : Bool) → LeavesAnEnd (minus_then w a b)
minus_then_leaves w a true = then_leaves (measure true) (λ b. give _) (measure_from_leaves true false) (λ b xs. end_refl xs)
minus_then_leaves w a false = λ xs. end_refl xs

shrunk_leaves : (w : Scaled) (a : Amount) → LeavesAnEnd (shrunk w a)
shrunk_leaves w a = then_leaves (keyword minus) (minus_then w a) (keyword_leaves minus) (minus_then_leaves w a)

plus_then_leaves : (w : Scaled) (b : Bool) → LeavesAnEnd (plus_then w b)
plus_then_leaves w true = then_leaves (measure true) (shrunk w) (measure_from_leaves true false) (shrunk_leaves w)
plus_then_leaves w false = shrunk_leaves w _

stretched_leaves : (a : Amount) → LeavesAnEnd (stretched a)
stretched_leaves a = then_leaves (keyword plus) (plus_then a.value) (keyword_leaves plus) (plus_then_leaves a.value)

known_glue_leaves : (negative : Bool) (g : Glue) → LeavesAnEnd (known_glue negative g)
known_glue_leaves negative g = or_fails TooLarge (is_glue_within (signed_glue negative g)) (give _) (λ xs. end_refl xs)

glue_opened_leaves : (negative : Bool) (g : Option Glue) (x : Look) (xs : List Look) → Leaves (glue_opened negative g x xs) (x ∷ xs)
glue_opened_leaves negative (Some g) x xs = leaves_cons (known_glue negative g xs) x xs (known_glue_leaves negative g xs)
glue_opened_leaves negative None x xs = then_leaves (measure_from false negative) stretched (measure_from_leaves false negative) stretched_leaves (x ∷ xs)

unsigned_glue_leaves : (negative : Bool) → LeavesAnEnd (unsigned_glue negative)
unsigned_glue_leaves negative [] = tt
unsigned_glue_leaves negative (x ∷ xs) = glue_opened_leaves negative (internal_glue x) x xs

pub glue_leaves : LeavesAnEnd glue
glue_leaves = then_leaves (while sign_turn false) unsigned_glue (while_leaves sign_turn false) unsigned_glue_leaves

-- ---- how many go back

back_bound : {A : Type 0} (r : Read A) (xs : List Look) (v : A) (n : ℕ) → Leaves r xs → verdict r ≡ Decided v n → n ≤ length xs
back_bound (Gives a left) xs v n (front, e) is =
    let count : length left ≡ n = cc in
    omega (arith, count, ap length e, length-append front left)
back_bound (Wants w) xs v n h is = absurd (cc)
back_bound (Fails f) xs v n h is = absurd (cc)

pub number_back : (xs : List Look) (v : ℤ) (n : ℕ) → verdict (number xs) ≡ Decided v n → n ≤ length xs
number_back xs v n = back_bound (number xs) xs v n (number_leaves xs)

pub dimension_back : (xs : List Look) (v : Scaled) (n : ℕ) → verdict (dimension xs) ≡ Decided v n → n ≤ length xs
dimension_back xs v n = back_bound (dimension xs) xs v n (dimension_leaves xs)

pub glue_back : (xs : List Look) (v : Glue) (n : ℕ) → verdict (glue xs) ≡ Decided v n → n ≤ length xs
glue_back xs v n = back_bound (glue xs) xs v n (glue_leaves xs)

pub keyword_back : (cs : List ℕ) (xs : List Look) (v : Bool) (n : ℕ) → verdict (keyword cs xs) ≡ Decided v n → n ≤ length xs
keyword_back cs xs v n = back_bound (keyword cs xs) xs v n (keyword_leaves cs xs)
