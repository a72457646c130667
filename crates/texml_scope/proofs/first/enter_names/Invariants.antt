use Rattle.std.proofs.Common.{◌≡◌}
use Rattle.texml_token.specs.Numbers.{with_text}
use Rattle.texml_scope.specs.Shown.{world_of}
use Rattle.texml_scope.specs.Numbers.{world_at}
use Rattle.texml_scope.specs.Builtins.{with_control}
use Rattle.texml_scope.proofs.Entering.{EntersFirst}
use Rattle.texml_scope.proofs.first.enter_names.Given as goal

abbrev pub invariant-loop-control : goal.invariant-loop-control
invariant-loop-control l = EntersFirst (λ c. c.now) (with_control l.place) with_text l.controls (world_at l.initial.names (world_of l.initial.scope)) l.initial.names l.control-index l.initial.names l.names (world_of l.scope)
