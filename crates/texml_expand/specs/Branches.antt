-- Which text a conditional chooses (The TeXbook, chapter 20).
use Rattle.std.specs.Prelude.{ℕ, ℤ, pos, negsuc, zero, suc, Bool, true, false, ◌==◌, if◌then◌else◌, Option, Some, None}
use Rattle.texml_scope.specs.declared.builtins.TheConstants.{IF, IFCAT, IFX, IFNUM, IFDIM, IFODD, IFTRUE, IFFALSE, IFCASE}
use Rattle.texml_cond.specs.declared.limits.Bound.TheVariants as bounds
use Rattle.texml_cond.specs.declared.limits.Word.{Word}
use Rattle.texml_cond.specs.declared.limits.Word.TheVariants as words
pub use Rattle.texml_expand.specs.declared.conditional.Test.{Test}
pub use Rattle.texml_expand.specs.declared.conditional.Test.TheVariants.{If, IfCat, IfX, IfNum, IfDim, IfOdd, IfTrue, IfFalse, IfCase}
pub use Rattle.texml_expand.specs.declared.conditional.Sought.{Sought}
pub use Rattle.texml_expand.specs.declared.conditional.Sought.TheVariants.{End, Otherwise, Case, NoCase}
pub use Rattle.texml_expand.specs.declared.conditional.Met.{Met}
pub use Rattle.texml_expand.specs.declared.conditional.Met.TheVariants.{Ends, Chooses, Forbidden, Passes}
pub use Rattle.texml_expand.specs.declared.conditional.Choice.{Choice}
pub use Rattle.texml_expand.specs.declared.conditional.Choice.TheVariants.{Comes, Skips}

-- the test that the builtin of a place begins, if it begins one
abbrev pub test_at : ℕ → Option Test
test_at place =
    if place == IF then Some If
    else if place == IFCAT then Some IfCat
    else if place == IFX then Some IfX
    else if place == IFNUM then Some IfNum
    else if place == IFDIM then Some IfDim
    else if place == IFODD then Some IfOdd
    else if place == IFTRUE then Some IfTrue
    else if place == IFFALSE then Some IfFalse
    else if place == IFCASE then Some IfCase
    else None

-- what \or does where text behind \else, or behind so many and one more of it, is sought
abbrev pub meets_or : Sought → Met
meets_or End = Passes End
meets_or Otherwise = Forbidden
meets_or (Case zero) = Chooses bounds.Or
meets_or (Case (suc n)) = Passes (Case n)
meets_or NoCase = Passes NoCase

abbrev pub meets_else : Sought → Met
meets_else End = Passes End
meets_else sought = Chooses bounds.Fi

-- what a conditional's own word does in its skipped text
abbrev pub meets : Sought → Word → Met
meets sought words.Fi = Ends
meets sought words.Else = meets_else sought
meets sought words.Or = meets_or sought

-- a true test chooses the text that comes, a false one that behind \else
abbrev pub choose : Bool → Choice
choose true = Comes bounds.Else
choose false = Skips Otherwise

-- a number chooses the text behind so many \or; a negative one, and one with too few of them, that behind \else
abbrev pub choose_case : ℤ → Choice
choose_case (pos zero) = Comes bounds.Or
choose_case (pos (suc n)) = Skips (Case n)
choose_case (negsuc n) = Skips NoCase
