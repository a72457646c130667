-- Records that are told one after the other.
use Rattle.std.specs.Prelude.{◌≡◌, List, [], ◌∷◌}
use Rattle.texml_watch.specs.declared.record.Record.{Record}

-- a chain: each record was heard by what the one before it left
abbrev pub AllHeard : {T : Type 0} → (T → Record → T → Type 0) → T → List Record → T → Type 0
AllHeard heard old [] new = new ≡ old
AllHeard {T = T} heard old (news ∷ rows) new = (mid : T) × heard old news mid × AllHeard heard mid rows new
