-- What sinks in memory hold.
use Rattle.std.specs.Prelude.{ℕ, ◌+◌, ◌==◌, ◌&&◌, not, nat_le, List, length, Bool, None, Some}
use Rattle.texml_base.specs.Outside.{Ink}
use Rattle.texml_base.specs.Rising.{add_up}
use Rattle.texml_base.specs.declared.memory_sinks.MemorySink.{MemorySink}
use Rattle.texml_base.specs.declared.memory_sinks.CalmSink.{CalmSink}

abbrev pub calm_ink : CalmSink → Ink
calm_ink s = record { bytes = None; count = Some s.count }

abbrev pub sink_bytes : MemorySink → List ℕ
sink_bytes s = s.bytes.items

abbrev pub sink_ink : MemorySink → Ink
sink_ink s = record { bytes = Some s.bytes.items; count = Some (length s.bytes.items) }

abbrev pub sink_faults : MemorySink → ℕ
sink_faults s = s.faults.count

abbrev pub sink_room : MemorySink → ℕ
sink_room s = s.room

-- the number of the next write
abbrev pub next_write : MemorySink → ℕ
next_write s = add_up s.alarm.calls 1

-- the number of the write that fails, or 0
abbrev pub failing_write : MemorySink → ℕ
failing_write s = s.alarm.at

-- whether the next write takes this piece
abbrev pub fits_in : MemorySink → List ℕ → Bool
fits_in s piece = not (next_write s == failing_write s) && nat_le (length s.bytes.items + length piece) s.room
