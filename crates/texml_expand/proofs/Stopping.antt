-- The stop that a call answers is passed on.
use Rattle.std.proofs.Common.{◌≡◌, Result, Ok, Err, ap}
use Rattle.std.specs.Result.{IsErr, IsErrAnd}
use Rattle.texml_expand.specs.declared.stop.Stop.{Stop}

pub passed_on : {B : Type 0} (r : Result B Stop) (e : Stop) → IsErr r × IsErrAnd r (λ x. x ≡ e) → r ≡ Err e
passed_on (Ok v) e h = let no = h.0 in cc
passed_on (Err x) e h = ap Err h.1
