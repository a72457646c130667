-- The arguments of a macro (The TeXbook, chapter 20).
use Rattle.std.specs.Prelude.{ℕ, ◌-◌, Bool, true, false, ◌&&◌, ◌||◌, not, List, [], ◌∷◌, ◌++◌, length, take, Option, None, Some, option_map, Ok, Err, if◌then◌else◌}
use Rattle.std.specs.List.{list_any, ends_with}
use Rattle.texml_token.specs.Token.{Token, has_category, token_eq, paragraph}
use Rattle.texml_token.specs.declared.category.TheConstants.{BEGIN_GROUP, END_GROUP, SPACE}
use Rattle.texml_match.specs.declared.arg_match.MatchFault.TheVariants.{Mismatch, RunawayPar, ExtraBrace}
use Rattle.texml_match.specs.Groups.{is_balanced, ends_unbegun, inside, unbraced}
use Rattle.texml_match.specs.Reading.{Read, Wants, Gives, Fails, Reader, ◌>>=◌, ◌>>◌, give, Verdict, least}
use Rattle.texml_match.specs.Shape.{Shape}

-- these tokens must stand at the front
abbrev pub exactly : List Token → Reader (Unit {0})
exactly [] ts = Gives tt ts
exactly (e ∷ es) [] = Wants
exactly (e ∷ es) (t ∷ ts) = if token_eq e t then exactly es ts else Fails Mismatch

-- spaces are passed over, up to another token
abbrev pub spaces : Reader (Unit {0})
spaces [] = Wants
spaces (t ∷ ts) = if has_category SPACE t then spaces ts else Gives tt (t ∷ ts)

-- an argument without a delimiter: a token that is no brace, or what is inside exactly one group
abbrev pub undelimited : List Token → Option (List Token)
undelimited [] = None
undelimited (t ∷ []) = if has_category BEGIN_GROUP t || has_category END_GROUP t then None else Some (t ∷ [])
undelimited (t ∷ u ∷ ts) = inside (t ∷ u ∷ ts)

-- an argument before its delimiter: a balanced list, without its braces where it is exactly one group
abbrev pub delimited : List Token → List Token → Option (List Token)
delimited delimiter list =
    let argument = take (length list - length delimiter) list in
    if ends_with token_eq list delimiter && is_balanced argument then Some (unbraced argument) else None

abbrev pub argument_in : List Token → List Token → Option (List Token)
argument_in [] list = undelimited list
argument_in (d ∷ ds) list = delimited (d ∷ ds) list

-- `\par` may stand in an argument of a long macro, and in one whose delimiter has it
abbrev pub is_par : Token → Bool
is_par = token_eq paragraph

abbrev pub lets_par : Bool → List Token → Bool
lets_par long delimiter = long || list_any is_par delimiter

-- what tokens decide of an argument: a group ends that hasn't begun, `\par` stands where it may not, or they are the argument
-- with its delimiter
abbrev pub verdict : Bool → List Token → List Token → Verdict (List Token)
verdict long delimiter list =
    if ends_unbegun list then Some (Err ExtraBrace)
    else if list_any is_par list && not (lets_par long delimiter) then Some (Err RunawayPar)
    else option_map Ok (argument_in delimiter list)

-- an argument, by the least number of tokens that decide; spaces before one without a delimiter don't belong to it
abbrev pub argument : Bool → List Token → Reader (List Token)
argument long [] = spaces >> least (verdict long []) []
argument long (d ∷ ds) = least (verdict long (d ∷ ds)) []

-- an argument for each delimiter
abbrev pub arguments : Bool → List (List Token) → Reader (List (List Token))
arguments long [] = give []
arguments long (d ∷ ds) = do
  first ← argument long d
  others ← arguments long ds
  give (first ∷ others)

-- what is read behind a macro: the tokens before its first argument, and its arguments
abbrev pub reading : Shape Token → Reader (List (List Token))
reading shape = do
  exactly shape.prefix
  arguments shape.long shape.delimiters
