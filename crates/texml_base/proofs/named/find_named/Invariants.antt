use Rattle.std.proofs.Common.{◌≡◌, drop}
use Rattle.texml_base.specs.Named.{look_up}
use Rattle.texml_base.proofs.named.find_named.Given as goal

abbrev pub invariant-loop-file : goal.invariant-loop-file
invariant-loop-file l = look_up l.named l.name ≡ look_up (drop l.file-index l.named) l.name
