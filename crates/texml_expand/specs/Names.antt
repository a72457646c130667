-- Names made of characters (The TeXbook, chapter 20).
use Rattle.std.specs.Prelude.{ℕ, Bool, true, false, List, [], ◌∷◌, map, if◌then◌else◌}
use Rattle.texml_token.specs.Token.{Token, Char, Named}
use Rattle.texml_scope.specs.Groups.{set_local}
use Rattle.texml_scope.specs.Values.{meaning_in}
use Rattle.texml_scope.specs.Texts.{World, Meaning, key_eq}
use Rattle.texml_scope.specs.declared.values.KeyOf.TheVariants.{Name as NameKey}
use Rattle.texml_scope.specs.declared.values.MeaningOf.TheVariants.{Undefined, Builtin}
use Rattle.texml_scope.specs.declared.values.ValueOf.TheVariants.{Means}
use Rattle.texml_scope.specs.declared.builtins.TheConstants.{RELAX}
use Rattle.texml_expand.specs.declared.gathering.Gathering.TheVariants.{Name}
use Rattle.texml_expand.specs.State.{State, Reading, ◌>>=◌, ◌>>◌, give, change}
use Rattle.texml_expand.specs.Calls.{Gift, Puts, Calls}

-- the text of characters
abbrev pub char_code : Token → ℕ
char_code (Char c category) = c
char_code t = 0

abbrev pub text_of : List Token → List ℕ
text_of = map char_code

abbrev pub is_undefined : Meaning → Bool
is_undefined Undefined = true
is_undefined m = false

-- a name without a meaning means \relax from now on, in the innermost group
abbrev pub with_name : List ℕ → World → World
with_name text w = if is_undefined (meaning_in (w.top (NameKey text))) then set_local key_eq (NameKey text) (Means (Builtin RELAX)) w else w

abbrev pub named : List ℕ → State → State
named text s = record s { world = with_name text s.world }

-- the name that these characters make
abbrev pub name_of : List Token → Reading Gift
name_of list = do
  change (named (text_of list))
  give (Puts (Named (text_of list) ∷ []))

-- \csname gives the name that characters make, up to \endcsname
abbrev pub cs_name : Calls → Reading Gift
cs_name calls = do
  list ← calls.gather Name []
  name_of list
