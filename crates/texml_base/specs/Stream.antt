-- What a sink over a writer of std stands for.
use Rattle.std.specs.Prelude.{ℕ, List, take, Result, MatchResult}
use Rattle.std.specs.declared.option.Option.{Option}
use Rattle.std.specs.Io.KnownBytes.{Appends}
use Rattle.texml_base.specs.declared.sink.StreamSink.{StreamSink}

-- the bytes that its writer holds, where they are known
abbrev pub stream_bytes : {W : Type 0} → (W → Option (List ℕ)) → StreamSink W → Option (List ℕ)
stream_bytes contents s = contents s.stream

abbrev pub stream_faults : {W : Type 0} → StreamSink W → ℕ
stream_faults s = s.faults.count

-- a writer took a piece whole, or at an error a first part of it
abbrev pub AppendsPiece : {E : Type 0} → Option (List ℕ) → Option (List ℕ) → Result (Unit {0}) E → List ℕ → Type 0
AppendsPiece old new result piece = MatchResult result (λ _. Appends old new piece) (λ _. (n : ℕ) × Appends old new (take n piece))
