use Rattle.std.proofs.Common.{◌≡◌, ◌+◌, drop, IsTrue}
use Rattle.texml_base.specs.Outside.{in_use}
use Rattle.texml_base.specs.Opened.{ids_of}
use Rattle.texml_base.specs.Place.{place}
use Rattle.texml_base.proofs.opened.place_of.Given as goal

abbrev pub invariant-loop-i : goal.invariant-loop-i
invariant-loop-i g l =
    (place l.id l.opened ≡ l.i + place l.id (drop l.i l.opened)) × IsTrue (in_use (ids_of (drop l.i l.opened)) l.id)
