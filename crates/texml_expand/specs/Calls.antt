-- The readings that lead back to each other: each definition is one over these.
use Rattle.std.specs.Prelude.{ℕ, ◌==◌, if◌then◌else◌, List, [], ◌∷◌, map, Option, Some, None, option_map}
use Rattle.texml_token.specs.Token.{Token}
use Rattle.texml_scope.specs.Texts.{Meaning, MacroText}
use Rattle.texml_scope.specs.declared.values.MeaningOf.TheVariants.{Macro, Builtin}
use Rattle.texml_scope.specs.declared.builtins.TheConstants.{EXPANDAFTER, NOEXPAND, CSNAME, STRING, NUMBER, ROMANNUMERAL, THE, JOBNAME, INPUT, ENDINPUT, ELSE, OR, FI}
use Rattle.texml_cond.specs.declared.limits.Word.{Word}
use Rattle.texml_cond.specs.declared.limits.Word.TheVariants as words
use Rattle.texml_scan.specs.declared.looks.Look.{Look}
use Rattle.texml_scan.specs.Grammar.{Remainder}
use Rattle.texml_input.specs.Rest.{Page, Item, Tok, Frozen, Text}
use Rattle.texml_input.specs.Next.{Taken}
use Rattle.texml_expand.specs.State.{Reading}
use Rattle.texml_expand.specs.Branches.{Test, test_at}
pub use Rattle.texml_expand.specs.declared.gathering.Gathering.{Gathering}

-- what can be expanded: the call of a macro, or a builtin; a conditional with its test, or a word that ends a part of one
pub data Expandable : Type 0 where
  Call : MacroText → Expandable
  ExpandAfter : Expandable
  NoExpand : Expandable
  CsName : Expandable
  String : Expandable
  Number : Expandable
  RomanNumeral : Expandable
  The : Expandable
  JobName : Expandable
  Input : Expandable
  EndInput : Expandable
  Conditional : Test → Expandable
  PartEnd : Word → Expandable

-- what the builtin of a place expands as, if it does
abbrev pub expandable_at : ℕ → Option Expandable
expandable_at place =
    if place == EXPANDAFTER then Some ExpandAfter
    else if place == NOEXPAND then Some NoExpand
    else if place == CSNAME then Some CsName
    else if place == STRING then Some String
    else if place == NUMBER then Some Number
    else if place == ROMANNUMERAL then Some RomanNumeral
    else if place == THE then Some The
    else if place == JOBNAME then Some JobName
    else if place == INPUT then Some Input
    else if place == ENDINPUT then Some EndInput
    else if place == ELSE then Some (PartEnd words.Else)
    else if place == OR then Some (PartEnd words.Or)
    else if place == FI then Some (PartEnd words.Fi)
    else option_map Conditional (test_at place)

-- what a token of this meaning can be expanded by, if it can be
abbrev pub expandable : Option Meaning → Option Expandable
expandable None = None
expandable (Some (Macro m)) = Some (Call m)
expandable (Some (Builtin place)) = expandable_at place
expandable (Some m) = None

-- what an expansion gives: tokens that go back, one that goes back kept from being expanded, or the text of a file
pub data Gift : Type 0 where
  Puts : List Token → Gift
  Freezes : Token → Gift
  Opens : Page → Gift

-- what it puts back: items, the tokens that are told, and the name of the file that was opened, or nothing
abbrev pub items_of : Gift → List (Item Token)
items_of (Puts list) = map Tok list
items_of (Freezes t) = Frozen t ∷ []
items_of (Opens text) = Text text ∷ []

abbrev pub tokens_of : Gift → List Token
tokens_of (Puts list) = list
tokens_of (Freezes t) = t ∷ []
tokens_of (Opens text) = []

abbrev pub file_of : Gift → List ℕ
file_of (Opens text) = text.name
file_of gift = []

-- a token that was looked at for a quantity, and its look
pub record Seen : Type 0 where
  pub token : Token
  pub look : Look

abbrev pub looks : List Seen → List Look
looks = map (λ s. s.look)

-- fetching: the next token that isn't expanded; one expansion; looking at tokens for a quantity, of which some were seen; gathering
-- tokens behind some; and the tokens that \the gives where they are taken as they are
pub record Calls : Type 1 where
  pub fetch : Reading (Option Taken)
  pub expand : Token → Expandable → Reading (Unit {0})
  pub scan : {V : Type 0} → Remainder V → List Seen → Reading V
  pub gather : Gathering → List Token → Reading (List Token)
  pub copy : Token → Reading (List Token)
