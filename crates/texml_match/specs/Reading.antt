-- What is read at the front of a list of tokens, where the tokens that are to come aren't known.
use Rattle.std.specs.Prelude.{List, [], ◌∷◌, ◌++◌, Option, None, Some, Result, Ok, Err}
use Rattle.texml_token.specs.Token.{Token}
use Rattle.texml_match.specs.declared.arg_match.MatchFault.{MatchFault}

-- of a list: it is too short to decide; a value, and the tokens behind what was read; or a fault
pub data Read (A : Type 0) : Type 0 where
  Wants : Read A
  Gives : A → List Token → Read A
  Fails : MatchFault → Read A

abbrev pub Reader : Type 0 → Type 0
Reader A = List Token → Read A

-- what is read next stands behind what was read
abbrev pub behind : {A B : Type 0} → Read A → (A → Reader B) → Read B
behind Wants next = Wants
behind (Gives a left) next = next a left
behind (Fails f) next = Fails f

infixl 10 ◌>>=◌
abbrev pub ◌>>=◌ : {A B : Type 0} → Reader A → (A → Reader B) → Reader B
◌>>=◌ first next list = behind (first list) next

infixl 10 ◌>>◌
abbrev pub ◌>>◌ : {A B : Type 0} → Reader A → Reader B → Reader B
◌>>◌ first next list = behind (first list) (λ _. next)

abbrev pub give : {A : Type 0} → A → Reader A
give a list = Gives a list

-- what tokens decide, if they do: a value or a fault
abbrev pub Verdict : Type 0 → Type 0
Verdict A = Option (Result A MatchFault)

abbrev pub decided_or : {A : Type 0} → Verdict A → List Token → Read A → Read A
decided_or None left onward = onward
decided_or (Some (Ok a)) left onward = Gives a left
decided_or (Some (Err f)) left onward = Fails f

-- by the least number of tokens that decide, behind those of `list`, which don't
abbrev pub least : {A : Type 0} → (List Token → Verdict A) → List Token → Reader A
least verdict list [] = Wants
least verdict list (t ∷ ts) = decided_or (verdict (list ++ t ∷ [])) ts (least verdict (list ++ t ∷ []) ts)
