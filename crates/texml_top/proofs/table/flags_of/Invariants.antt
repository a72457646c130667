use Rattle.std.proofs.Common.{◌≡◌, take}
use Rattle.texml_top.specs.Table.{flags_in}
use Rattle.texml_top.proofs.table.flags_of.Given as goal

abbrev pub invariant-loop-flag : goal.invariant-loop-flag
invariant-loop-flag l = l.flags ≡ flags_in (take l.flag-index l.list)
