use Rattle.std.proofs.Common.{◌≡◌, ℕ, ◌<◌, true}
use Rattle.texml_base.specs.Outside.{in_use}
use Rattle.texml_base.specs.Opened.{ids_of}
use Rattle.texml_base.proofs.opened.free_id.Given as goal

abbrev pub invariant-loop-id : goal.invariant-loop-id
invariant-loop-id g l = (k : ℕ) → k < l.id → in_use (ids_of l.opened) k ≡ true
