-- Glue (The TeXbook, chapter 24).
use Rattle.std.specs.Prelude.{ℕ, pos, Bool, true, false, ◌&&◌, if◌then◌else◌, List, [], ◌∷◌, Option, Some, None, codes}
use Rattle.texml_scan.specs.declared.looks.Look.{Look}
use Rattle.texml_scan.specs.declared.looks.Look.TheVariants.{End, Character, Other}
use Rattle.texml_scan.specs.declared.looks.Quantity.{Quantity}
use Rattle.texml_scan.specs.declared.looks.Quantity.TheVariants.{Plain, Unread, Int, Dimen, Glue}
use Rattle.texml_fixed.specs.declared.glue.Glue.{Glue as GlueValue}
use Rattle.texml_fixed.specs.declared.glue.Order.TheVariants.{Pt}
use Rattle.texml_fixed.specs.declared.glue.Amount.{Amount}
use Rattle.texml_scan.specs.Looks.{sign_turn}
use Rattle.texml_scan.specs.Grammar.{Text, Wants, Expanded, ◌>>=◌, give, fail, while}
use Rattle.texml_scan.specs.declared.steps.ScanFault.TheVariants.{TooLarge}
use Rattle.texml_fixed.specs.Glue.{glue_of, turned}
use Rattle.texml_fixed.specs.declared.scaled.Scaled.{Scaled}
use Rattle.texml_scan.specs.Number.{is_within}
use Rattle.texml_scan.specs.Keyword.{keyword}
use Rattle.texml_scan.specs.Measure.{measure, measure_from, amount}

abbrev pub glue_quantity : Quantity → Option GlueValue
glue_quantity Plain = None
glue_quantity Unread = None
glue_quantity (Int i) = None
glue_quantity (Dimen d) = None
glue_quantity (Glue g) = Some g

abbrev pub internal_glue : Look → Option GlueValue
internal_glue End = None
internal_glue (Character c k) = None
internal_glue (Other c q) = glue_quantity q

abbrev pub plus : List ℕ
plus = codes "plus"

abbrev pub minus : List ℕ
minus = codes "minus"

-- all three parts turn with the sign
abbrev pub signed_glue : Bool → GlueValue → GlueValue
signed_glue true g = turned g
signed_glue false g = g

abbrev pub is_glue_within : GlueValue → Bool
is_glue_within g = is_within g.width.0 && is_within g.stretch.0 && is_within g.shrink.0

-- an internal glue, unless one of its parts passes the bound
abbrev pub known_glue : Bool → GlueValue → Text GlueValue
known_glue negative g = if is_glue_within (signed_glue negative g) then give (signed_glue negative g) else fail TooLarge

abbrev pub nothing : Amount
nothing = amount (record { 0 = pos 0 }) Pt

-- `minus` and an amount, or nothing
abbrev pub minus_then : Scaled → Amount → Bool → Text GlueValue
minus_then w a true = do
  b ← measure true
  give (glue_of w a b)
minus_then w a false = give (glue_of w a nothing)

abbrev pub shrunk : Scaled → Amount → Text GlueValue
shrunk w a = do
  found ← keyword minus
  minus_then w a found

-- `plus` and an amount, or nothing
abbrev pub plus_then : Scaled → Bool → Text GlueValue
plus_then w true = do
  a ← measure true
  shrunk w a
plus_then w false = shrunk w nothing

abbrev pub stretched : Amount → Text GlueValue
stretched a = do
  found ← keyword plus
  plus_then a.value found

-- an internal glue, or a dimension and what it may stretch and shrink by
abbrev pub glue_opened : Bool → Option GlueValue → Look → Text GlueValue
glue_opened negative (Some g) x = known_glue negative g
glue_opened negative None x = λ xs. (measure_from false negative >>= stretched) (x ∷ xs)

abbrev pub unsigned_glue : Bool → Text GlueValue
unsigned_glue negative [] = Wants Expanded
unsigned_glue negative (x ∷ xs) = glue_opened negative (internal_glue x) x xs

abbrev pub glue_from : Bool → Text GlueValue
glue_from negative = do
  sign ← while sign_turn negative
  unsigned_glue sign

abbrev pub glue : Text GlueValue
glue = glue_from false
