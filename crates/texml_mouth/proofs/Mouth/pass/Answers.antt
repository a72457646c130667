use Rattle.std.proofs.Common.{◌≤◌, arith, length, sym, ap, subst}
use Rattle.texml_mouth.specs.Seen.{Seen}
use Rattle.texml_mouth.specs.Inside.{left}
use Rattle.texml_mouth.proofs.Left.{some_left, left_one}
use Rattle.texml_mouth.proofs.Mouth.pass.Goals as goal

pub prove-unreachable-requires : goal.prove-unreachable-requires
prove-unreachable-requires c =
    let some : 1 ≤ length (left c.self.inside.front c.self.inside.line c.self.inside.place) = subst (λ (s : Seen). 1 ≤ length s.spot.tail) (sym c.self.view_is) c.requires in
    omega (arith, some_left c.self.inside.front c.self.inside.line c.self.inside.place c.in-None.is some, ap length c.as_slice-length.ensures)

pub returns-in-None : goal.returns-in-None
returns-in-None c =
    rw (← c.self.view_is) (ap (λ t. record { spot = record { state = c.self.inside.state; tail = t }; fault = c.self.inside.fault }) (left_one c.self.inside.front c.self.inside.line c.self.inside.place c.in-None.is))
