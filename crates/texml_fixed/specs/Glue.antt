-- Glue (The TeXbook, chapters 12 and 24): sums, and what is done to each of its parts.
use Rattle.std.specs.Prelude.{ℕ, ℤ, pos, neg_ℤ, ◌+ℤ◌, unsigned_abs, Bool, ◌&&◌, ◌==◌, nat_lt, if◌then◌else◌, Result, Ok, Err}
use Rattle.texml_fixed.specs.declared.fault.NumFault.{NumFault}
use Rattle.texml_fixed.specs.declared.fault.NumFault.TheVariants.{Overflow}
use Rattle.texml_fixed.specs.declared.arithmetic.TheConstants.{MAX_NUMBER}
use Rattle.texml_fixed.specs.declared.scaled.Scaled.{Scaled}
use Rattle.texml_fixed.specs.declared.glue.Order.{Order}
use Rattle.texml_fixed.specs.declared.glue.Order.TheVariants.{Pt, Fil, Fill, Filll}
use Rattle.texml_fixed.specs.declared.glue.Amount.{Amount}
use Rattle.texml_fixed.specs.declared.glue.Glue.{Glue}
use Rattle.texml_fixed.specs.Arithmetic.{bounded, IsWithin}

-- how high an order is
abbrev pub rank : Order → ℕ
rank Pt = 0
rank Fil = 1
rank Fill = 2
rank Filll = 3

abbrev pub amount : ℤ → Order → Amount
amount value order = record { value = record { 0 = value }; order = order }

abbrev pub is_zero : Amount → Bool
is_zero a = unsigned_abs a.value.0 == 0

-- of two amounts of different orders, the one of the higher order that isn't 0; where both are 0, 0 of order pt
abbrev pub stronger : Amount → Amount → Amount
stronger a b =
    if is_zero a && is_zero b then amount (pos 0) Pt
    else if is_zero a then b
    else if is_zero b then a
    else if nat_lt (rank a.order) (rank b.order) then b
    else a

abbrev pub in_order : Order → Result ℤ NumFault → Result Amount NumFault
in_order order (Ok value) = Ok (amount value order)
in_order order (Err fault) = Err fault

-- amounts of one order add
abbrev pub amount_sum : Amount → Amount → Result Amount NumFault
amount_sum a b =
    if rank a.order == rank b.order then in_order a.order (bounded Overflow MAX_NUMBER (a.value.0 +ℤ b.value.0))
    else Ok (stronger a b)

abbrev pub glue_of : Scaled → Amount → Amount → Glue
glue_of width stretch shrink = record {
  width = width;
  stretch = stretch.value;
  stretch_order = stretch.order;
  shrink = shrink.value;
  shrink_order = shrink.order;
}

abbrev pub stretch_of : Glue → Amount
stretch_of g = record { value = g.stretch; order = g.stretch_order }

abbrev pub shrink_of : Glue → Amount
shrink_of g = record { value = g.shrink; order = g.shrink_order }

-- glue of three parts, unless one of them is a fault
abbrev pub together : Result ℤ NumFault → Result Amount NumFault → Result Amount NumFault → Result Glue NumFault
together (Ok width) (Ok stretch) (Ok shrink) = Ok (glue_of (record { 0 = width }) stretch shrink)
together (Ok width) (Ok stretch) (Err fault) = Err fault
together (Ok width) (Err fault) shrink = Err fault
together (Err fault) stretch shrink = Err fault

-- widths add, and so do what both stretch by and what both shrink by
abbrev pub glue_sum : Glue → Glue → Result Glue NumFault
glue_sum g h =
    together (bounded Overflow MAX_NUMBER (g.width.0 +ℤ h.width.0))
    (amount_sum (stretch_of g) (stretch_of h)) (amount_sum (shrink_of g) (shrink_of h))

-- the same done to each part, whose orders stay
abbrev pub part_by_part : (ℤ → Result ℤ NumFault) → Glue → Result Glue NumFault
part_by_part change g =
    together (change g.width.0) (in_order g.stretch_order (change g.stretch.0)) (in_order g.shrink_order (change g.shrink.0))

-- all three parts turned
abbrev pub turned : Glue → Glue
turned g = record g {
  width = record { 0 = neg_ℤ g.width.0 };
  stretch = record { 0 = neg_ℤ g.stretch.0 };
  shrink = record { 0 = neg_ℤ g.shrink.0 };
}

-- no part passes ±2147483647
abbrev pub IsGlueWithin : Glue → Type 0
IsGlueWithin g = IsWithin g.width.0 × IsWithin g.stretch.0 × IsWithin g.shrink.0
