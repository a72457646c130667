-- Skipped text (The TeXbook, chapter 20): the tokens up to the first `\else`, `\or` or `\fi` before which as many conditionals begin as end.
use Rattle.std.specs.Prelude.{◌≡◌, ℕ, ◌+◌, ◌==◌, Bool, true, false, List, [], ◌∷◌, ◌++◌, count_by, if◌then◌else◌}
use Rattle.texml_token.specs.declared.tokens.Name.{Name as NameCode}
use Rattle.texml_token.specs.declared.tokens.Token.{Token as TokenCode}
use Rattle.texml_scope.specs.declared.builtins.TheConstants.{ELSE, OR, FI}
use Rattle.texml_scope.specs.declared.values.MeaningOf.TheVariants.{Builtin}
use Rattle.texml_scope.specs.Values.{Meaning}
use Rattle.texml_scope.specs.Builtins.{is_conditional}
use Rattle.texml_cond.specs.declared.limits.Word.{Word}
use Rattle.texml_cond.specs.declared.limits.Word.TheVariants as words
use Rattle.texml_cond.specs.declared.skipping.Part.{Part}
use Rattle.texml_cond.specs.declared.skipping.Part.TheVariants.{Begins, Stops, Passes}
use Rattle.texml_cond.specs.declared.skipping.SkipStep.{SkipStep}
use Rattle.texml_cond.specs.declared.skipping.SkipStep.TheVariants.{More, Reached, TooDeep}
use Rattle.texml_cond.specs.declared.skipping.TheConstants.{DEEPEST}

-- what a builtin does in skipped text
abbrev pub part_at : ℕ → Part
part_at place =
    if is_conditional place then Begins
    else if place == ELSE then Stops words.Else
    else if place == OR then Stops words.Or
    else if place == FI then Stops words.Fi
    else Passes

abbrev pub is_fi : Word → Bool
is_fi words.Fi = true
is_fi word = false

abbrev pub is_begin : Part → Bool
is_begin Begins = true
is_begin p = false

abbrev pub is_end : Part → Bool
is_end (Stops word) = is_fi word
is_end p = false

abbrev pub MeaningCode : Type 0
MeaningCode = Meaning NameCode TokenCode

abbrev pub or_later : SkipStep → SkipStep → SkipStep
or_later More later = later
or_later step later = step

-- by what a name N and a token T is
module _ {N T : Type 0} where
  -- what a token of this meaning does
  abbrev pub part_of : Meaning N T → Part
  part_of (Builtin place) = part_at place
  part_of m = Passes

  -- how many conditionals begin among tokens of these meanings, and how many are ended by \fi
  abbrev pub begun : List (Meaning N T) → ℕ
  begun ms = count_by (λ m. is_begin (part_of m)) ms

  abbrev pub ended : List (Meaning N T) → ℕ
  ended ms = count_by (λ m. is_end (part_of m)) ms

  -- what a token decides behind others: one of the words does where as many conditionals began as ended, and a conditional does that is the last of too many
  abbrev pub decided_by : List (Meaning N T) → Part → SkipStep
  decided_by seen Begins = if begun seen + 1 == ended seen + DEEPEST then TooDeep else More
  decided_by seen (Stops word) = if begun seen == ended seen then Reached word else More
  decided_by seen Passes = More

  -- what the first of these tokens that decides anything decides, behind others
  abbrev pub skip_behind : List (Meaning N T) → List (Meaning N T) → SkipStep
  skip_behind seen [] = More
  skip_behind seen (m ∷ ms) = or_later (decided_by seen (part_of m)) (skip_behind (seen ++ m ∷ []) ms)

  abbrev pub skip : List (Meaning N T) → SkipStep
  skip ms = skip_behind [] ms

-- these meanings decided nothing, and so many more conditionals have begun among them than ended
pub record Fed (seen : List MeaningCode) (within : ℕ) : Type 0 where
  pub undecided : skip seen ≡ More
  pub count : begun seen ≡ ended seen + within
