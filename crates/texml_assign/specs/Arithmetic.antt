-- \advance, \multiply and \divide (The TeXbook, chapters 15 and 24).
use Rattle.std.specs.Prelude.{ℤ, ◌+ℤ◌, ◌*ℤ◌, Bool, if◌then◌else◌, [], Option, None, Some, Result, Ok, Err, codes}
use Rattle.texml_token.specs.Token.{Token}
use Rattle.texml_token.specs.declared.fault_code.TheConstants.{FILE_ENDED, MISPLACED, OVERFLOW}
use Rattle.texml_fixed.specs.declared.fault.NumFault.{NumFault}
use Rattle.texml_fixed.specs.declared.fault.NumFault.TheVariants.{Overflow}
use Rattle.texml_fixed.specs.declared.arithmetic.TheConstants.{MAX_NUMBER, MAX_DIMENSION}
use Rattle.texml_fixed.specs.declared.scaled.Scaled.{Scaled}
use Rattle.texml_fixed.specs.declared.glue.Glue.{Glue as GlueValue}
use Rattle.texml_fixed.specs.Arithmetic.{bounded, divided}
use Rattle.texml_fixed.specs.Glue.{glue_sum, part_by_part}
use Rattle.texml_scope.specs.Texts.{Key}
use Rattle.texml_scope.specs.Values.{Value}
use Rattle.texml_scope.specs.declared.values.ValueOf.TheVariants as values
use Rattle.texml_expand.specs.State.{Reading, ◌>>=◌, ◌>>◌, give, fail, change}
use Rattle.texml_expand.specs.Variables.{Internal, value_of}
use Rattle.texml_expand.specs.Variables as internals
use Rattle.texml_expand.specs.Expand.{ByDepth, means, fetch, read_int, read_dimen, read_glue, read_keyword}
use Rattle.texml_assign.specs.declared.targets.Target.{Target}
use Rattle.texml_assign.specs.declared.table.Arithmetic.{Arithmetic}
use Rattle.texml_assign.specs.declared.table.Arithmetic.TheVariants.{Advance, Multiply, Divide}
use Rattle.texml_assign.specs.declared.arithmetic.Counted.{Counted}
use Rattle.texml_assign.specs.declared.arithmetic.Counted.TheVariants.{Number, Dimension, Glue}
use Rattle.texml_assign.specs.Sets.{set}
use Rattle.texml_assign.specs.Targets.{target_of, variable_of, target_key, is_counted}

-- What is counted with

-- it must be a variable that can be counted with
abbrev pub counted : Option Target → Reading Target
counted None = fail MISPLACED []
counted (Some target) = if is_counted (variable_of target) then give target else fail MISPLACED []

abbrev pub counted_by : Token → Reading Target
counted_by t s = counted (target_of (means s.world t)) s

abbrev pub counted_of : Option Token → Reading Target
counted_of None = fail FILE_ENDED []
counted_of (Some t) = counted_by t

abbrev pub next_counted : ByDepth Target
next_counted n = do
  o ← fetch n
  counted_of o

-- its value: a list of tokens is none to count with
abbrev pub count_of : Internal → Reading Counted
count_of (internals.Number i) = give (Number i)
count_of (internals.Dimension d) = give (Dimension d)
count_of (internals.Glue g) = give (Glue g)
count_of (internals.Tokens list) = fail MISPLACED []

abbrev pub count_now : Key → Reading Counted
count_now k = do
  q ← value_of k
  count_of q

-- Results

abbrev pub as_number : Result ℤ NumFault → Result Counted NumFault
as_number (Ok z) = Ok (Number z)
as_number (Err e) = Err e

abbrev pub as_dimension : Result ℤ NumFault → Result Counted NumFault
as_dimension (Ok z) = Ok (Dimension (record { 0 = z }))
as_dimension (Err e) = Err e

abbrev pub as_glue : Result GlueValue NumFault → Result Counted NumFault
as_glue (Ok g) = Ok (Glue g)
as_glue (Err e) = Err e

-- a product with a number, and a quotient, rounded towards 0
abbrev pub product : Counted → ℤ → Result Counted NumFault
product (Number a) b = as_number (bounded Overflow MAX_NUMBER (a *ℤ b))
product (Dimension a) b = as_dimension (bounded Overflow MAX_DIMENSION (a.0 *ℤ b))
product (Glue a) b = as_glue (part_by_part (λ part. bounded Overflow MAX_DIMENSION (part *ℤ b)) a)

abbrev pub quotient : Counted → ℤ → Result Counted NumFault
quotient (Number a) b = as_number (divided a b)
quotient (Dimension a) b = as_dimension (divided a.0 b)
quotient (Glue a) b = as_glue (part_by_part (λ part. divided part b) a)

-- a result within its bound, or else fault 10
abbrev pub fits : Result Counted NumFault → Reading Counted
fits (Ok c) = give c
fits (Err e) = fail OVERFLOW []

-- sums
abbrev pub number_sum : ℤ → ℤ → Result Counted NumFault
number_sum a b = as_number (bounded Overflow MAX_NUMBER (a +ℤ b))

abbrev pub dimension_sum : Scaled → Scaled → Result Counted NumFault
dimension_sum a b = as_dimension (bounded Overflow MAX_NUMBER (a.0 +ℤ b.0))

abbrev pub sum_of_glue : GlueValue → GlueValue → Result Counted NumFault
sum_of_glue a b = as_glue (glue_sum a b)

-- a result with a number, a dimension or glue that comes next
abbrev pub by_number : (ℤ → Result Counted NumFault) → ByDepth Counted
by_number f n = do
  b ← read_int n
  fits (f b)

abbrev pub by_dimension : (Scaled → Result Counted NumFault) → ByDepth Counted
by_dimension f n = do
  b ← read_dimen n
  fits (f b)

abbrev pub by_glue : (GlueValue → Result Counted NumFault) → ByDepth Counted
by_glue f n = do
  b ← read_glue n
  fits (f b)

abbrev pub advanced : Counted → ByDepth Counted
advanced (Number a) = by_number (number_sum a)
advanced (Dimension a) = by_dimension (dimension_sum a)
advanced (Glue a) = by_glue (sum_of_glue a)

abbrev pub computed : Arithmetic → Counted → ByDepth Counted
computed Advance a = advanced a
computed Multiply a = by_number (product a)
computed Divide a = by_number (quotient a)

-- The commands

abbrev pub value_from : {N T : Type 0} → Counted → Value N T
value_from (Number i) = values.Number i
value_from (Dimension d) = values.Number d.0
value_from (Glue g) = values.Glue g

-- the new value takes the place of the old one
abbrev pub count_on : Bool → Arithmetic → Key → Counted → ByDepth (Unit {0})
count_on global what k old n = do
  c ← computed what old n
  change (set global k (value_from c))

abbrev pub count_with : Bool → Arithmetic → Key → ByDepth (Unit {0})
count_with global what k n = do
  old ← count_now k
  count_on global what k old n

-- the word by may be missing
abbrev pub count_by : Bool → Arithmetic → Key → ByDepth (Unit {0})
count_by global what k n = do
  read_keyword (codes "by") n
  count_with global what k n

abbrev pub count_target : Bool → Arithmetic → Target → ByDepth (Unit {0})
count_target global what target n = do
  k ← target_key target n
  count_by global what k n

-- what is counted with, the word by, which may be missing, and a value
abbrev pub arithmetic : Bool → Arithmetic → ByDepth (Unit {0})
arithmetic global what n = do
  target ← next_counted n
  count_target global what target n
