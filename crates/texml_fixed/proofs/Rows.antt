-- The definitions computed on small values.
use Rattle.std.proofs.Common.{◌≡◌, ℕ, pos, negsuc, List, [], ◌∷◌, map, refl, codes, Result, Ok, Err}
use Rattle.std.specs.Fmt.{digits}
use Rattle.texml_fixed.specs.declared.fault.NumFault.{NumFault}
use Rattle.texml_fixed.specs.declared.fault.NumFault.TheVariants.{TooLarge, Overflow}
use Rattle.texml_fixed.specs.declared.scaled.Scaled.{Scaled}
use Rattle.texml_fixed.specs.declared.unit.Unit.{Unit}
use Rattle.texml_fixed.specs.declared.unit.Unit.TheVariants.{Pt, In, Pc, Cm, Mm, Bp, Dd, Cc, Sp, Em, Ex, Own}
use Rattle.texml_fixed.specs.declared.glue.Order.TheVariants as order
use Rattle.texml_fixed.specs.declared.arithmetic.TheConstants.{MAX_NUMBER}
use Rattle.texml_fixed.specs.Arithmetic.{bounded, divided}
use Rattle.texml_fixed.specs.Decimals.{fraction}
use Rattle.texml_fixed.specs.Units.{measured}
use Rattle.texml_fixed.specs.Printing.{printed}
use Rattle.texml_fixed.specs.Glue.{amount, amount_sum}

abbrev pub units : List Unit
units = Pt ∷ In ∷ Pc ∷ Cm ∷ Mm ∷ Bp ∷ Dd ∷ Cc ∷ Sp ∷ Em ∷ Ex ∷ []

-- so many scaled points
abbrev pub sp : ℕ → Result Scaled NumFault
sp n = Ok (record { 0 = pos n })

pub one_of_each_unit : map (measured 1 []) units ≡
    map sp (65536 ∷ 4736286 ∷ 786432 ∷ 1864679 ∷ 186467 ∷ 65781 ∷ 70124 ∷ 841489 ∷ 1 ∷ 655360 ∷ 282168 ∷ [])
one_of_each_unit = refl

-- 2.75
pub decimals_of_each_unit : map (measured 2 (7 ∷ 5 ∷ [])) units ≡
    map sp (180224 ∷ 13024788 ∷ 2162688 ∷ 5127869 ∷ 512786 ∷ 180899 ∷ 192841 ∷ 2314094 ∷ 2 ∷ 1802240 ∷ 775962 ∷ [])
decimals_of_each_unit = refl

pub fractions : map fraction ((5 ∷ []) ∷ (1 ∷ []) ∷ (0 ∷ 0 ∷ 0 ∷ 0 ∷ 1 ∷ []) ∷ (9 ∷ 9 ∷ 9 ∷ 9 ∷ 9 ∷ []) ∷ (3 ∷ 3 ∷ 3 ∷ []) ∷ []) ≡
    32768 ∷ 6554 ∷ 1 ∷ 65535 ∷ 21823 ∷ []
fractions = refl

abbrev pub ones : List ℕ
ones = 1 ∷ 1 ∷ 1 ∷ 1 ∷ 1 ∷ 1 ∷ 1 ∷ 1 ∷ 1 ∷ 1 ∷ 1 ∷ 1 ∷ 1 ∷ 1 ∷ 1 ∷ 1 ∷ 1 ∷ []

pub seventeen_digits_count : map fraction (ones ∷ (1 ∷ ones) ∷ []) ≡ 7282 ∷ 7282 ∷ []
seventeen_digits_count = refl

pub too_large : measured 16384 [] Pt ∷ measured 1073741824 [] Sp ∷ measured 5759 [] Mm ∷ measured 226 (8 ∷ []) In ∷ [] ≡
    Err TooLarge ∷ Err TooLarge ∷ Err TooLarge ∷ Err TooLarge ∷ []
too_large = refl

pub just_not_too_large :
    measured 16383 (9 ∷ 9 ∷ 9 ∷ 9 ∷ 9 ∷ []) Pt ∷ measured 1073741823 [] Sp ∷ measured 226 (7 ∷ []) In ∷ measured 5758 [] Mm ∷ [] ≡
    map sp (1073741823 ∷ 1073741823 ∷ 1073716184 ∷ 1073682635 ∷ [])
just_not_too_large = refl

-- 1.5 times -3 scaled points, towards 0
pub own_unit_turns : measured 1 (5 ∷ []) (Own (record { 0 = negsuc 2 })) ≡ Ok (record { 0 = negsuc 3 })
own_unit_turns = refl

pub printed_amounts : map (λ n. printed (pos n)) (0 ∷ 1 ∷ 2 ∷ 65535 ∷ 65536 ∷ 1073741823 ∷ 2147483647 ∷ []) ≡
    codes "0.0" ∷ codes "0.00002" ∷ codes "0.00003" ∷ codes "0.99998" ∷ codes "1.0" ∷ codes "16383.99998" ∷ codes "32767.99998" ∷ []
unfolding digits
printed_amounts = refl

pub printed_below_zero : printed (negsuc 0) ∷ printed (negsuc 65536) ∷ [] ≡ codes "-0.00002" ∷ codes "-1.00002" ∷ []
unfolding digits
printed_below_zero = refl

pub past_the_bound : bounded Overflow MAX_NUMBER (pos 2147483648) ∷ bounded Overflow MAX_NUMBER (negsuc 2147483647) ∷ [] ≡ Err Overflow ∷ Err Overflow ∷ []
past_the_bound = refl

pub at_the_bound : bounded Overflow MAX_NUMBER (pos 2147483647) ∷ bounded Overflow MAX_NUMBER (negsuc 2147483646) ∷ [] ≡
    Ok (pos 2147483647) ∷ Ok (negsuc 2147483646) ∷ []
at_the_bound = refl

pub quotients : divided (negsuc 6) (pos 2) ∷ divided (pos 7) (negsuc 1) ∷ divided (pos 1) (pos 0) ∷ [] ≡ Ok (negsuc 2) ∷ Ok (negsuc 2) ∷ Err Overflow ∷ []
quotients = refl

-- 3fil and 5fil; 3fil and 5fill; 3fil and 0fill; 0fil and 0fill
pub amounts_added :
    amount_sum (amount (pos 3) order.Fil) (amount (pos 5) order.Fil) ∷ amount_sum (amount (pos 3) order.Fil) (amount (pos 5) order.Fill)
    ∷ amount_sum (amount (pos 3) order.Fil) (amount (pos 0) order.Fill) ∷ amount_sum (amount (pos 0) order.Fil) (amount (pos 0) order.Fill) ∷ [] ≡
    Ok (amount (pos 8) order.Fil) ∷ Ok (amount (pos 5) order.Fill) ∷ Ok (amount (pos 3) order.Fil) ∷ Ok (amount (pos 0) order.Pt) ∷ []
amounts_added = refl
