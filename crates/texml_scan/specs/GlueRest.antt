-- What is left of glue, by where a scanner is.
use Rattle.std.specs.Prelude.{ℕ}
use Rattle.texml_scan.specs.declared.glue.Part.{Part}
use Rattle.texml_scan.specs.declared.glue.Part.TheVariants as part
use Rattle.texml_scan.specs.declared.glue.GlueScan.{GlueScan}
use Rattle.texml_scan.specs.declared.measure.Measuring.{Measuring}
use Rattle.texml_fixed.specs.declared.scaled.Scaled.{Scaled}
use Rattle.texml_fixed.specs.declared.glue.Glue.{Glue as GlueValue}
use Rattle.texml_fixed.specs.declared.glue.Amount.{Amount}
use Rattle.texml_scan.specs.Grammar.{Text, give, ◌>>=◌, verdict, Remainder}
use Rattle.texml_scan.specs.KeywordRest.{keyword_at}
use Rattle.texml_scan.specs.MeasureRest.{measuring_rest}
use Rattle.texml_scan.specs.Glue.{plus, minus, glue_from, stretched, plus_then, shrunk, minus_then}
use Rattle.texml_fixed.specs.Glue.{glue_of}

abbrev pub width_left : Measuring → Text GlueValue
width_left inner = measuring_rest inner >>= stretched

abbrev pub plus_left : ℕ → Scaled → Text GlueValue
plus_left at w = keyword_at at plus >>= plus_then w

abbrev pub stretch_left : Measuring → Scaled → Text GlueValue
stretch_left inner w = measuring_rest inner >>= shrunk w

abbrev pub minus_left : ℕ → Scaled → Amount → Text GlueValue
minus_left at w a = keyword_at at minus >>= minus_then w a

abbrev pub shrink_left : Measuring → Scaled → Amount → Text GlueValue
shrink_left inner w a = measuring_rest inner >>= (λ b. give (glue_of w a b))

abbrev pub glue_at : Part → GlueScan → Text GlueValue
glue_at part.Signs s = glue_from s.negative
glue_at part.Width s = width_left s.inner
glue_at part.Plus s = plus_left s.plus_at s.width
glue_at part.Stretch s = stretch_left s.inner s.width
glue_at part.Minus s = minus_left s.minus_at s.width s.stretch
glue_at part.Shrink s = shrink_left s.inner s.width s.stretch

abbrev pub glue_rest : GlueScan → Remainder GlueValue
glue_rest s more = verdict (glue_at s.part s more)
