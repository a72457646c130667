-- Only contracts of private functions need these: what the code's scanners make of looks.
use Rattle.std.specs.Prelude.{◌≡◌, suc}
use Rattle.texml_scan.specs.Grammar.{Expanded, Raw, Asked, Verdict, Wanting, Decided, Faulty, Remainder, verdict}
use Rattle.texml_scan.specs.IntRest.{number_rest}
use Rattle.texml_scan.specs.MeasureRest.{dimen_rest}
use Rattle.texml_scan.specs.GlueRest.{glue_rest}
use Rattle.texml_scan.specs.KeywordRest.{keyword_rest}
pub use Rattle.texml_expand.specs.declared.machine.Value.{Value}
use Rattle.texml_expand.specs.declared.machine.Value.TheVariants as values
use Rattle.texml_expand.specs.declared.machine.Scanned.{Scanned}
use Rattle.texml_expand.specs.declared.machine.Scanned.TheVariants as scanned
use Rattle.texml_expand.specs.declared.machine.Machine.{Machine}
use Rattle.texml_expand.specs.declared.machine.Machine.TheVariants as machines

-- a verdict on another value
abbrev pub mapped : {V W : Type 0} → (V → W) → Verdict V → Verdict W
mapped f (Wanting w) = Wanting w
mapped f (Decided v n) = Decided (f v) n
mapped f (Faulty fault) = Faulty fault

abbrev pub scanned_as : Scanned → Verdict Value
scanned_as scanned.Expanded = Wanting Expanded
scanned_as scanned.Raw = Wanting Raw
scanned_as scanned.Asked = Wanting Asked
scanned_as (scanned.Decided v n) = Decided v n
scanned_as (scanned.Faulty f) = Faulty f

-- the end isn't counted
abbrev pub ended_as : Scanned → Verdict Value
ended_as scanned.Expanded = Wanting Expanded
ended_as scanned.Raw = Wanting Raw
ended_as scanned.Asked = Wanting Asked
ended_as (scanned.Decided v n) = Decided v (suc n)
ended_as (scanned.Faulty f) = Faulty f

-- a fact where one more token is wanted, and one where a quantity is
abbrev pub GoesOn : Scanned → Type 0 → Type 0
GoesOn scanned.Expanded P = P
GoesOn scanned.Raw P = P
GoesOn scanned.Asked P = Unit {0}
GoesOn (scanned.Decided v n) P = Unit {0}
GoesOn (scanned.Faulty f) P = Unit {0}

abbrev pub Asks : Scanned → Type 0 → Type 0
Asks scanned.Expanded P = Unit {0}
Asks scanned.Raw P = Unit {0}
Asks scanned.Asked P = P
Asks (scanned.Decided v n) P = Unit {0}
Asks (scanned.Faulty f) P = Unit {0}

-- it has decided
abbrev pub IsOver : Scanned → Type 0
IsOver scanned.Expanded = ⊥
IsOver scanned.Raw = ⊥
IsOver scanned.Asked = ⊥
IsOver (scanned.Decided v n) = Unit {0}
IsOver (scanned.Faulty f) = Unit {0}

-- it has decided on this value
abbrev pub HasValue : Value → Scanned → Type 0
HasValue v scanned.Expanded = ⊥
HasValue v scanned.Raw = ⊥
HasValue v scanned.Asked = ⊥
HasValue v (scanned.Decided w n) = w ≡ v
HasValue v (scanned.Faulty f) = ⊥

-- what is left of what a machine reads
abbrev pub machine_rest : Machine → Remainder Value
machine_rest (machines.Int s) more = mapped values.Int (verdict (number_rest s more))
machine_rest (machines.Dimen s) more = mapped values.Dimen (verdict (dimen_rest s more))
machine_rest (machines.Glue s) more = mapped values.Glue (glue_rest s more)
machine_rest (machines.Keyword s) more = mapped values.Found (keyword_rest s more)
