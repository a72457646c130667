use Rattle.std.proofs.Common.{◌≡◌, drop}
use Rattle.texml_base.specs.Outside.{in_use}
use Rattle.texml_base.specs.Opened.{ids_of}
use Rattle.texml_base.proofs.opened.is_in_use.Given as goal

abbrev pub invariant-loop-o : goal.invariant-loop-o
invariant-loop-o g l = in_use (ids_of l.opened) l.id ≡ in_use (ids_of (drop l.o-index l.opened)) l.id
