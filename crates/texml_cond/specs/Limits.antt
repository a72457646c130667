-- Open conditionals (The TeXbook, chapter 20).
use Rattle.std.specs.Prelude.{List, Option, None, Some, slice_get, length, ◌-◌}
use Rattle.texml_cond.specs.declared.limits.Bound.{Bound}
use Rattle.texml_cond.specs.declared.limits.Bound.TheVariants as bounds
use Rattle.texml_cond.specs.declared.limits.Word.{Word}
use Rattle.texml_cond.specs.declared.limits.Word.TheVariants as words
use Rattle.texml_cond.specs.declared.limits.Allow.{Allow}
use Rattle.texml_cond.specs.declared.limits.Allow.TheVariants.{Go, Relax, Extra}

-- what a limit allows: while a test is read, \relax comes before the word
abbrev pub allowed_by : Bound → Word → Allow
allowed_by bounds.Test word = Relax
allowed_by bounds.Fi words.Fi = Go
allowed_by bounds.Else words.Fi = Go
allowed_by bounds.Else words.Else = Go
allowed_by bounds.Or word = Go
allowed_by limit word = Extra

-- where none is open, no word may come
abbrev pub allowed_in : Option Bound → Word → Allow
allowed_in None word = Extra
allowed_in (Some limit) word = allowed_by limit word

-- the limit of the innermost conditional, which is the last of the list
abbrev pub innermost : List Bound → Option Bound
innermost limits = slice_get limits (length limits - 1)

abbrev pub allowed : List Bound → Word → Allow
allowed limits word = allowed_in (innermost limits) word
