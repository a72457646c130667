-- Tokens that are gathered, expanded as they come (The TeXbook, chapter 20).
use Rattle.std.specs.Prelude.{Bool, true, false, ◌==◌, ◌||◌, List, [], ◌∷◌, ◌++◌, map, flat_map, if◌then◌else◌}
use Rattle.texml_token.specs.Token.{Token, Char, has_category}
use Rattle.texml_token.specs.declared.category.TheConstants.{PARAMETER, SPACE}
use Rattle.texml_token.specs.declared.fault_code.TheConstants.{FILE_ENDED, MISSING_NUMBER, MISSING_ENDCSNAME}
use Rattle.texml_scope.specs.Texts.{Meaning, World}
use Rattle.texml_scope.specs.declared.values.MeaningOf.TheVariants.{Builtin}
use Rattle.texml_scope.specs.declared.builtins.TheConstants.{ENDCSNAME}
use Rattle.texml_expand.specs.declared.feeding.Verdict.{Verdict}
use Rattle.texml_expand.specs.declared.feeding.Verdict.TheVariants.{TooShort, Yields, Refuses}
use Rattle.texml_expand.specs.declared.gathering.Gathering.TheVariants.{Name, Relation, Group, FileName, All}
use Rattle.texml_input.specs.Rest.{Tok}
use Rattle.texml_input.specs.Next.{Taken}
use Rattle.texml_expand.specs.Least.{decided}
use Rattle.texml_expand.specs.State.{State, Reading, ◌>>=◌, ◌>>◌, give, fail, change}
use Rattle.texml_expand.specs.Take.{back, means}
use Rattle.texml_expand.specs.Arguments.{is_space, is_sign}
use Rattle.texml_expand.specs.Braces.{absorbed}
use Rattle.texml_expand.specs.Variables.{Internal, Tokens}
use Rattle.texml_expand.specs.Calls.{Expandable, The, Gathering, Calls}
use Rattle.texml_expand.specs.Front.{Front, Nothing, Plain, Expands, front}
use Rattle.texml_expand.specs.Quantities.{counts_as, next_internal, shown}
use Rattle.texml_expand.specs.Begin.{begin, finish_with}

-- What one more token decides behind those that were gathered

abbrev pub ends_name : Meaning → Bool
ends_name (Builtin place) = place == ENDCSNAME
ends_name m = false

-- a character belongs to the name, and \endcsname ends it
abbrev pub of_name : World → List Token → Token → Verdict (List Token)
of_name w seen (Char c category) = TooShort
of_name w seen t = if ends_name (means w t) then Yields seen else Refuses MISSING_ENDCSNAME

-- <, = or > of category 12
abbrev pub is_relation : Token → Bool
is_relation t = is_sign 60 t || is_sign 61 t || is_sign 62 t

abbrev pub of_relation : World → Token → Verdict (List Token)
of_relation w t =
    if is_space w t then TooShort
    else if is_relation t then Yields (t ∷ [])
    else Refuses MISSING_NUMBER

-- the name of a file, without the spaces before it
abbrev pub file_part : List Token → List Token
file_part [] = []
file_part (t ∷ list) = if has_category SPACE t then file_part list else t ∷ list

-- the name is complete, if it has begun
abbrev pub named_file : List Token → Verdict (List Token) → Verdict (List Token)
named_file [] none = none
named_file (t ∷ list) none = Yields (t ∷ list)

-- a character belongs to the name of a file, a space ends it, and so does another token
abbrev pub of_file_name : List Token → Token → Verdict (List Token)
of_file_name seen (Char c category) = if category == SPACE then named_file (file_part seen) TooShort else TooShort
of_file_name seen t = Yields (file_part seen)

-- a token in a group counts as itself, and no text may have ended before it
abbrev pub judged : Gathering → World → List Token → Taken → Verdict (List Token)
judged Name w seen t = of_name w seen (counts_as w t)
judged Relation w seen t = of_relation w (counts_as w t)
judged Group w seen t = if t.crossed then Refuses FILE_ENDED else absorbed (seen ++ t.token ∷ [])
judged FileName w seen t = of_file_name seen t.token
judged All w seen t = TooShort

-- what the end of the text decides: all was gathered, and else it is fault 4
abbrev pub at_end : Gathering → List Token → Verdict (List Token)
at_end All seen = Yields seen
at_end g seen = Refuses FILE_ENDED

-- the token that ends the name of a file goes back, unless it is a space
abbrev pub left : Gathering → Token → State → State
left FileName (Char c category) s = s
left FileName t s = back t false s
left g t s = s

-- Gathering

abbrev pub gather_on : Calls → Gathering → List Token → Token → Verdict (List Token) → Reading (List Token)
gather_on calls g seen t TooShort = calls.gather g (seen ++ t ∷ [])
gather_on calls g seen t (Yields v) = do
  change (left g t)
  give v
gather_on calls g seen t (Refuses code) = fail code []

abbrev pub gather_token : Calls → Gathering → List Token → Taken → Reading (List Token)
gather_token calls g seen t s = gather_on calls g seen t.token (judged g s.world seen t) s

-- in a group the tokens that \the gives are taken as they are
abbrev pub copies : Gathering → Expandable → Bool
copies Group The = true
copies g e = false

abbrev pub gather_expansion : Calls → Gathering → List Token → Token → Expandable → Bool → Reading (List Token)
gather_expansion calls g seen t e true = do
  list ← calls.copy t
  calls.gather g (seen ++ list)
gather_expansion calls g seen t e false = do
  calls.expand t e
  calls.gather g seen

abbrev pub gather_front : Calls → Gathering → List Token → Front → Reading (List Token)
gather_front calls g seen Nothing = decided (at_end g seen)
gather_front calls g seen (Plain t) = gather_token calls g seen t
gather_front calls g seen (Expands t e) = gather_expansion calls g seen t e (copies g e)

-- what is gathered behind these tokens
abbrev pub gather_by : Calls → Gathering → List Token → Reading (List Token)
gather_by calls g seen = do
  f ← front
  gather_front calls g seen f

-- What \the gives in a group

-- a parameter character counts twice, so that it is one again where the body of a definition is read
abbrev pub doubled_token : Token → List Token
doubled_token t = if has_category PARAMETER t then t ∷ t ∷ [] else t ∷ []

abbrev pub doubled : List Token → List Token
doubled = flat_map doubled_token

-- the tokens of a list are taken at once, and a quantity goes back
abbrev pub kept_of : Internal → List Token
kept_of (Tokens list) = doubled list
kept_of q = []

abbrev pub returned : Internal → List Token
returned (Tokens list) = []
returned q = shown q

abbrev pub copied : Token → Internal → Reading (List Token)
copied t q = do
  finish_with (map Tok (returned q)) (shown q) [] t
  give (kept_of q)

-- an expansion of \the, of whose tokens those of a list are taken as they are
abbrev pub copy_by : Calls → Token → Reading (List Token)
copy_by calls t = do
  begin
  q ← next_internal calls
  copied t q
