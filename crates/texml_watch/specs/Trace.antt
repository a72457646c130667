-- The trace of completed expansions: a line for each.
use Rattle.std.specs.Prelude.{ℕ, List, [], ◌∷◌, ◌++◌, codes}
use Rattle.std.specs.List.{flat_map}
use Rattle.texml_watch.specs.declared.record.Record.{Record}

-- the spelling of the token, an arrow between spaces, the shown list that was put back, and a line feed
abbrev pub trace_line : Record → List ℕ
trace_line news = news.token ++ codes " -> " ++ news.put ++ 10 ∷ []

-- the lines of all records, one after the other
abbrev pub trace : List Record → List ℕ
trace = flat_map trace_line
