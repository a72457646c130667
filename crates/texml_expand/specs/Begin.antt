-- An expansion begins, and ends with what it gives.
use Rattle.std.specs.Prelude.{ℕ, ◌+◌, ◌-◌, nat_le, if◌then◌else◌, List, [], ◌++◌, encode_utf8_all}
use Rattle.texml_token.specs.Token.{Token}
use Rattle.texml_token.specs.declared.fault_code.TheConstants.{DEPTH}
use Rattle.texml_token.specs.Spelling.{shown as shown_text}
use Rattle.texml_watch.specs.declared.record.Record.{Record}
use Rattle.texml_expand.specs.declared.engine.expanding.TheConstants.{DEEPEST}
use Rattle.texml_input.specs.Rest.{Item}
use Rattle.texml_expand.specs.State.{State, Tex, Limit, fault_at, nothing, Done, Ended, Reading, ◌>>◌, change, tell}
use Rattle.texml_expand.specs.Take.{spelling}
use Rattle.texml_expand.specs.Calls.{Gift, items_of, tokens_of, file_of}

-- one more expansion begins and is open, unless the limit forbids it, or too many are open within each other
abbrev pub begin : Reading (Unit {0})
begin s =
    if nat_le s.limit s.begun then Ended (Limit s.limit) nothing
    else if nat_le DEEPEST s.nesting then Ended (Tex (fault_at DEPTH [] s.place)) nothing
    else Done tt (record s { begun = s.begun + 1; nesting = s.nesting + 1 }) nothing

-- the expansion is over, and these items stand before the rest
abbrev pub finished : List (Item Token) → State → State
finished items s = record s { rest = items ++ s.rest; nesting = s.nesting - 1 }

-- its record: the token's spelling, the tokens that it gives, and the name of the file that it opened
abbrev pub record_of : Token → List Token → List ℕ → Record
record_of t list file = record { token = spelling t; put = encode_utf8_all (shown_text list); file = file }

-- so it ends: these items stand before the rest, and these tokens and this file are told
abbrev pub finish_with : List (Item Token) → List Token → List ℕ → Token → Reading (Unit {0})
finish_with items told file t = do
  change (finished items)
  tell (record_of t told file)

abbrev pub finish : Token → Gift → Reading (Unit {0})
finish t gift = finish_with (items_of gift) (tokens_of gift) (file_of gift) t
