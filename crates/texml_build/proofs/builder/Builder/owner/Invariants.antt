use Rattle.std.proofs.Common.{◌≡◌, ◌+◌, drop}
use Rattle.texml_model.specs.Rules.{rules_of}
use Rattle.texml_build.specs.Brackets.{owner_of}
use Rattle.texml_build.specs.Held.{held_of, path_of}
use Rattle.texml_build.proofs.builder.Builder.owner.Given as goal

abbrev pub invariant-loop-n : goal.invariant-loop-n
invariant-loop-n l = owner_of (rules_of l.content) (path_of (held_of l.self)) ≡ l.n + owner_of (rules_of l.content) (drop l.n (path_of (held_of l.self)))
