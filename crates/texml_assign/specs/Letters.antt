-- Small letters and capitals (The TeXbook, chapter 7): a list of tokens comes again with the codes that its characters have in one of these cases.
use Rattle.std.specs.Prelude.{ℕ, suc, ℤ, pos, false, List, [], map, Option, Some}
use Rattle.texml_token.specs.Token.{Token, Char, Active}
use Rattle.texml_token.specs.declared.fault_code.TheConstants.{MISSING_BRACE}
use Rattle.texml_scope.specs.Texts.{Key, World}
use Rattle.texml_scope.specs.Values.{number_in}
use Rattle.texml_scope.specs.declared.values.KeyOf.TheVariants.{Lower, Upper}
use Rattle.texml_expand.specs.State.{State, ◌>>=◌, fail, change}
use Rattle.texml_expand.specs.Quantities.{Looked}
use Rattle.texml_expand.specs.Expand.{ByDepth, put}
use Rattle.texml_expand.specs.Absorb.{absorb}
use Rattle.texml_assign.specs.declared.fillers.Filler.TheVariants.{SpacesAndRelax}
use Rattle.texml_assign.specs.declared.assignments.ListStart.{ListStart}
use Rattle.texml_assign.specs.declared.assignments.ListStart.TheVariants.{Group, Register}
use Rattle.texml_assign.specs.declared.letters.Case.{Case}
use Rattle.texml_assign.specs.declared.letters.Case.TheVariants.{Small, Capital}
use Rattle.texml_assign.specs.Fillers.{first_behind}
use Rattle.texml_assign.specs.Assignments.{list_start}

-- Groups

-- of what begins a list, a brace alone
abbrev pub group_from : ListStart → ByDepth (List Token)
group_from Group = absorb false
group_from (Register target) = λ n. fail MISSING_BRACE []

abbrev pub group_by : Option Looked → ByDepth (List Token)
group_by o n = do
  start ← list_start o
  group_from start n

-- the tokens in braces that come next, unexpanded; spaces and \relax may stand before them
abbrev pub next_group : ByDepth (List Token)
next_group n = do
  o ← first_behind SpacesAndRelax n
  group_by o n

-- Codes

abbrev pub case_key : Case → ℕ → Key
case_key Small c = Lower c
case_key Capital c = Upper c

-- the code that a number is; at 0 a character keeps its own
abbrev pub code_or : ℕ → Option ℤ → ℕ
code_or c (Some (pos (suc n))) = suc n
code_or c z = c

abbrev pub code_in : Case → World → ℕ → ℕ
code_in case w c = code_or c (number_in (w.top (case_key case c)))

-- a character has another code, and keeps its category; an active one too. Names stay
abbrev pub token_in : Case → World → Token → Token
token_in case w (Char c category) = Char (code_in case w c) category
token_in case w (Active c) = Active (code_in case w c)
token_in case w t = t

abbrev pub put_in_case : Case → List Token → State → State
put_in_case case list s = put (map (token_in case s.world) list) s

abbrev pub change_case : Case → ByDepth (Unit {0})
change_case case n = do
  list ← next_group n
  change (put_in_case case list)
