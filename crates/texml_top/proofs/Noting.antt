-- Pieces of a line that a sink takes one after the other.
use Rattle.std.proofs.Common.{◌≡◌, ℕ, List, ◌++◌, take, length, Result, Ok, Err, sym, ap, ◌∙◌, take_all, arith, inl, inr}
use Rattle.texml_base.specs.Outside.{Ink, inked, Takes, HasCause}
use Rattle.texml_base.proofs.Taking.{takes_then, takes_first}
use Rattle.texml_top.specs.declared.status.Status.{Status}
use Rattle.texml_top.specs.declared.status.Status.TheVariants.{Done}
use Rattle.texml_top.specs.Notes.{note_of, Noted}

-- a first part of a piece was taken
abbrev pub Cut : Ink → Ink → List ℕ → Type 0
Cut old new piece = (n : ℕ) × (new ≡ inked old (take n piece))

pub cut_first : (old new : Ink) (a rest : List ℕ) → Cut old new a → Cut old new (a ++ rest)
cut_first old new a rest h = takes_first old new a rest h

-- behind one that was taken whole
pub cut_then : (old mid new : Ink) (a b : List ℕ) → mid ≡ inked old a → Cut mid new b → Cut old new (a ++ b)
cut_then old mid new a b first h = takes_then {E = ℕ} old mid new (Err 0) a b first h

-- a line that a sink took, or of which it took a first part
pub noted_by : {E : Type 0} (ended : Status) (old new : Ink) (before now : ℕ) (r : Result (Unit {0}) E)
    → Takes old new r (note_of ended) → HasCause before now r → (ended ≡ Done → now ≡ before) → Noted ended old new before now
noted_by ended old new before now (Ok u) text cause silent =
    let line = note_of ended in
    record { first = (length line, text ∙ ap (inked old) (sym (take_all (length line) line (omega arith)))); whole = λ calm. text; count = inl cause.kept; silent = silent }
noted_by ended old new before now (Err e) text cause silent =
    record { first = text; whole = λ calm. absurd (calm cause.failed); count = inr cause.failed; silent = silent }
