-- What the words of a command line ask for.
use Rattle.std.specs.Prelude.{ℕ, ◌==◌, ◌&&◌, not, Bool, true, false, List, [], ◌∷◌, length, if◌then◌else◌, codes, Option, None, Some, Result, Err}
use Rattle.std.specs.Char.{is_ascii_digit}
use Rattle.std.specs.Int.{is_in_range}
use Rattle.std.specs.List.{list_all}
use Rattle.std.specs.Option.{ok_or}
use Rattle.std.specs.Str.{bytes_eq}
use Rattle.std.specs.Str.Parse.{digits_value}
use Rattle.texml_top.specs.declared.request.Command.{Command}
use Rattle.texml_top.specs.declared.request.Command.TheVariants.{Convert, Expand}
use Rattle.texml_top.specs.declared.request.Request.{Request as RequestCode}

-- a command on a file, and how many expansions may begin
pub record Request : Type 0 where
  pub command : Command
  pub file : List ℕ
  pub limit : ℕ

-- how many expansions may begin where the words don't say
abbrev pub usual_limit : ℕ
usual_limit = 10000000

-- a word that stands for a file: not empty, and not an option
abbrev pub is_positional : List ℕ → Bool
is_positional [] = false
is_positional (c ∷ []) = true
is_positional (c ∷ d ∷ cs) = not (c == 45)

-- the number that one to ten decimal digits write, if it is between 1 and 1,000,000,000
abbrev pub limit_of : List ℕ → Option ℕ
limit_of word =
    if list_all is_ascii_digit word && is_in_range 1 10 (length word) && is_in_range 1 1000000000 (digits_value 10 word) then Some (digits_value 10 word)
    else None

abbrev pub request_with : Command → List ℕ → Option ℕ → Option Request
request_with command file None = None
request_with command file (Some limit) = if is_positional file then Some (record { command = command; file = file; limit = limit }) else None

-- what the words behind a command ask for: a file, and behind it `--limit` and a limit or nothing
abbrev pub request_of : Command → List (List ℕ) → Option Request
request_of command (file ∷ []) = request_with command file (Some usual_limit)
request_of command (file ∷ option ∷ word ∷ []) = if bytes_eq option (codes "--limit") then request_with command file (limit_of word) else None
request_of command _ = None

-- what the words of a command line ask for, or which of them are wrong: 1 the first, 2 those behind it
abbrev pub asked : List (List ℕ) → Result Request ℕ
asked [] = Err 1
asked (w ∷ ws) =
    if bytes_eq w (codes "convert") then ok_or (request_of Convert ws) 2
    else if bytes_eq w (codes "expand") then ok_or (request_of Expand ws) 2
    else if bytes_eq w (codes "self") then Err 2
    else Err 1

-- the code's request, with its file as bytes
abbrev pub read_as : RequestCode → Request
read_as r = record { command = r.command; file = r.file.now; limit = r.limit }
