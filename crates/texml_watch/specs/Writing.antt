-- What is written to a sink that is lent.
use Rattle.std.specs.Prelude.{◌≡◌, ℕ, ◌≤◌, List, [], ◌∷◌, ◌++◌, take}
use Rattle.texml_base.specs.Outside.{Ink, inked}
use Rattle.texml_base.specs.Rising.{Rose}
use Rattle.texml_watch.specs.Trace.{trace}
use Rattle.texml_watch.specs.declared.record.Record.{Record}

-- A sink that is lent: which loan it is, what the sink has taken, and how often it has failed.
pub record Lent : Type 0 where
  pub loan : ℕ
  pub ink : Ink
  pub faults : ℕ

-- the sink has taken these bytes, and hasn't failed
pub record Wrote (old : Lent) (piece : List ℕ) (new : Lent) : Type 0 where
  pub loan : new.loan ≡ old.loan
  pub ink : new.ink ≡ inked old.ink piece
  pub faults : new.faults ≡ old.faults

-- the sink has taken a prefix of these bytes, and nothing where its count of faults didn't rise
pub record BrokeOff (old : Lent) (piece : List ℕ) (new : Lent) : Type 0 where
  pub loan : new.loan ≡ old.loan
  pub ink : (n : ℕ) × (new.ink ≡ inked old.ink (take n piece))
  pub nothing : (Rose old.faults new.faults → ⊥) → new.ink ≡ old.ink
  pub faults : old.faults ≤ new.faults

-- The sink has taken a prefix of the trace of these records and one more, and exactly the lines of these records where its
-- count of faults didn't rise.
pub record WroteWithin (old : Lent) (rows : List Record) (news : Record) (new : Lent) : Type 0 where
  pub loan : new.loan ≡ old.loan
  pub ink : (n : ℕ) × (new.ink ≡ inked old.ink (take n (trace (rows ++ news ∷ []))))
  pub whole : (Rose old.faults new.faults → ⊥) → new.ink ≡ inked old.ink (trace rows)
  pub faults : old.faults ≤ new.faults
