-- The definitions computed on small values.
use Rattle.std.proofs.Common.{◌≡◌, ◌++◌, [], ◌∷◌, refl, codes}
use Rattle.texml_watch.specs.declared.record.Record.{Record}
use Rattle.texml_watch.specs.Trace.{trace_line, trace}

abbrev pub first : Record
first = record { token = codes "~"; put = codes "ab"; file = [] }

abbrev pub second : Record
second = record { token = codes "x"; put = []; file = codes "a.tex" }

pub line_of_record : trace_line first ≡ codes "~ -> ab" ++ 10 ∷ []
line_of_record = refl

pub file_is_not_told : trace_line second ≡ codes "x -> " ++ 10 ∷ []
file_is_not_told = refl

pub lines_in_order : trace (first ∷ second ∷ []) ≡ codes "~ -> ab" ++ 10 ∷ codes "x -> " ++ 10 ∷ []
lines_in_order = refl
