use Rattle.std.proofs.Common.{◌≡◌, map, drop}
use Rattle.texml_scope.specs.Builtins.{place_in, row_of}
use Rattle.texml_scope.proofs.builtins.place_in.Given as goal

abbrev pub invariant-loop-builtin : goal.invariant-loop-builtin
invariant-loop-builtin l = place_in (map row_of (drop l.builtin-index l.builtins)) l.name ≡ place_in (map row_of l.builtins) l.name
