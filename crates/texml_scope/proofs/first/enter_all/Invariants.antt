use Rattle.std.proofs.Common.{◌≡◌}
use Rattle.texml_scope.specs.Shown.{world_of}
use Rattle.texml_scope.specs.Numbers.{world_at}
use Rattle.texml_scope.specs.Builtins.{row_of, with_builtin, with_builtin_names}
use Rattle.texml_scope.proofs.Entering.{EntersFirst}
use Rattle.texml_scope.proofs.first.enter_all.Given as goal

abbrev pub invariant-loop-builtin : goal.invariant-loop-builtin
invariant-loop-builtin l = EntersFirst row_of with_builtin with_builtin_names l.builtins (world_at l.initial.names (world_of l.initial.scope)) l.initial.names l.builtin-index l.initial.names l.names (world_of l.scope)
