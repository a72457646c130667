-- The definitions computed on small lists.
use Rattle.std.proofs.Common.{◌≡◌, List, [], ◌∷◌, refl, ℕ}
use Rattle.texml_scope.specs.declared.values.MeaningOf.TheVariants.{Undefined, Builtin}
use Rattle.texml_scope.specs.declared.builtins.TheConstants.{IFTRUE, ELSE, OR, FI}
use Rattle.texml_cond.specs.declared.limits.Bound.TheVariants as bounds
use Rattle.texml_cond.specs.declared.limits.Word.TheVariants as words
use Rattle.texml_cond.specs.declared.limits.Allow.TheVariants.{Go, Relax, Extra}
use Rattle.texml_cond.specs.declared.skipping.SkipStep.TheVariants.{More, Reached}
use Rattle.texml_cond.specs.declared.skipping.TheConstants.{DEEPEST}
use Rattle.texml_cond.specs.Limits.{allowed}
use Rattle.texml_cond.specs.Skipping.{MeaningCode, skip}

pub no_conditional_allows_nothing : allowed [] words.Fi ≡ Extra
no_conditional_allows_nothing = refl

pub test_comes_first : allowed (bounds.Or ∷ bounds.Test ∷ []) words.Else ≡ Relax
test_comes_first = refl

pub second_else_is_extra : allowed (bounds.Fi ∷ []) words.Else ≡ Extra
second_else_is_extra = refl

pub case_allows_or : allowed (bounds.Fi ∷ bounds.Or ∷ []) words.Or ≡ Go
case_allows_or = refl

abbrev begin : MeaningCode
begin = Builtin IFTRUE

abbrev else : MeaningCode
else = Builtin ELSE

abbrev fi : MeaningCode
fi = Builtin FI

-- x\iftrue\else\fi\else
pub inner_words_are_passed_over : skip (Undefined ∷ begin ∷ else ∷ fi ∷ else ∷ []) ≡ Reached words.Else
inner_words_are_passed_over = refl

pub open_conditional_goes_on : skip (begin ∷ else ∷ []) ≡ More
open_conditional_goes_on = refl

pub first_word_decides : skip (fi ∷ else ∷ []) ≡ Reached words.Fi
first_word_decides = refl

pub a_million_are_too_many : DEEPEST ≡ 1000000
a_million_are_too_many = refl
