use Rattle.std.proofs.Common.{◌≡◌, drop}
use Rattle.texml_model.specs.Rules.{rules_of}
use Rattle.texml_build.specs.Brackets.{holder}
use Rattle.texml_build.specs.Held.{held_of, path_of}
use Rattle.texml_build.proofs.Paths.{shifted}
use Rattle.texml_build.proofs.builder.Builder.holder.Given as goal

abbrev pub invariant-loop-n : goal.invariant-loop-n
invariant-loop-n l = holder (rules_of l.content) l.attr (path_of (held_of l.self)) ≡ shifted l.n (holder (rules_of l.content) l.attr (drop l.n (path_of (held_of l.self))))
