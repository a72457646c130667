-- What a call does to a sink that is lent for a page. Behind a write that failed nothing more is written.
use Rattle.std.specs.Prelude.{◌≡◌, ℕ, ◌≤◌, Bool, true, false, List, ◌++◌}
use Rattle.texml_base.specs.Outside.{Ink, inked}
use Rattle.texml_base.specs.Rising.{Rose}
use Rattle.texml_html.specs.declared.writer.Writer.{Writer}

-- A sink that is lent: which loan it is, what the sink has taken, what is held back, how often the sink has failed, and
-- whether it has for this page.
pub record Lent : Type 0 where
  pub loan : ℕ
  pub ink : Ink
  pub held : List ℕ
  pub faults : ℕ
  pub failed : Bool

abbrev pub lent_by : {S : Type 0} → (S → Ink) → (S → ℕ) → Writer S → Lent
lent_by ink faults w = record { loan = w.sink.ghost_name; ink = ink w.sink.now; held = w.held.items; faults = faults w.sink.now; failed = w.failed }

-- of what was held and the piece behind it the sink took the first bytes, and the others are held
pub record Took (old : Lent) (piece : List ℕ) (new : Lent) : Type 0 where
  pub taken : List ℕ
  pub all : old.held ++ piece ≡ taken ++ new.held
  pub ink : new.ink ≡ inked old.ink taken
  pub faults : new.faults ≡ old.faults

-- it took the first bytes and failed, and the others are lost
pub record BrokeOff (old : Lent) (piece : List ℕ) (new : Lent) : Type 0 where
  pub taken : List ℕ
  pub lost : List ℕ
  pub all : old.held ++ piece ≡ taken ++ lost
  pub ink : new.ink ≡ inked old.ink taken
  pub later : old.faults ≤ new.faults
  pub rose : Rose old.faults new.faults

-- it had failed before
pub record StoodStill (old new : Lent) : Type 0 where
  pub ink : new.ink ≡ old.ink
  pub faults : new.faults ≡ old.faults

abbrev pub WroteBy : Bool → Bool → Lent → List ℕ → Lent → Type 0
WroteBy false false old piece new = Took old piece new
WroteBy false true old piece new = BrokeOff old piece new
WroteBy true true old piece new = StoodStill old new
WroteBy true false old piece new = ⊥

pub record Wrote (old : Lent) (piece : List ℕ) (new : Lent) : Type 0 where
  pub loan : new.loan ≡ old.loan
  pub by : WroteBy old.failed new.failed old piece new
