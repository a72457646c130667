-- What shows of a sink that is lent for lines.
use Rattle.std.specs.Prelude.{ℕ}
use Rattle.texml_base.specs.Outside.{Ink}
use Rattle.texml_watch.specs.Writing.{Lent}
use Rattle.texml_watch.specs.declared.lines.Lines.{Lines}

-- by what its sink has taken and how often it has failed
abbrev pub lent_by : {S : Type 0} → (S → Ink) → (S → ℕ) → Lines S → Lent
lent_by ink faults lines = record { loan = lines.sink.ghost_name; ink = ink lines.sink.now; faults = faults lines.sink.now }
