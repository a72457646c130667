-- What private functions take of a token, for their contracts alone.
use Rattle.std.specs.Prelude.{◌≡◌, Bool, false, List, [], ◌∷◌, Result, Ok, Err}
use Rattle.texml_token.specs.Token.{Token, has_category}
use Rattle.texml_token.specs.Numbers.{Table}
use Rattle.texml_token.specs.declared.category.TheConstants.{SPACE}
use Rattle.texml_match.specs.declared.arg_match.Refusal.{Refusal}
use Rattle.texml_match.specs.declared.arg_match.Refusal.TheVariants.{Fault, NoMemory}
use Rattle.texml_match.specs.Reading.{Fails, Reader}

-- what a token brings to what was left before it, and what is left behind it
abbrev pub Takes : {A : Type 0} → Result (Unit {0}) Refusal → Reader A → Reader A → Token → Type 0
Takes (Ok u) before after t = (more : List Token) → before (t ∷ more) ≡ after more
Takes (Err (Fault f)) before after t = (more : List Token) → before (t ∷ more) ≡ Fails f
Takes (Err NoMemory) before after t = Unit {0}

-- a space before an argument without a delimiter
abbrev pub skips : List Token → List Token → Token → Bool
skips [] [] t = has_category SPACE t
skips [] (l ∷ ls) t = false
skips (d ∷ ds) list t = false
