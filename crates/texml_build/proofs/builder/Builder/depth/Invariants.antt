use Rattle.std.proofs.Common.{◌≡◌, drop}
use Rattle.texml_model.specs.Rules.{rules_of}
use Rattle.texml_build.specs.Brackets.{depth_of}
use Rattle.texml_build.specs.Held.{held_of, path_of}
use Rattle.texml_build.proofs.Paths.{shifted}
use Rattle.texml_build.proofs.builder.Builder.depth.Given as goal

abbrev pub invariant-loop-n : goal.invariant-loop-n
invariant-loop-n l = depth_of (rules_of l.content) l.elem.0 (path_of (held_of l.self)) ≡ shifted l.n (depth_of (rules_of l.content) l.elem.0 (drop l.n (path_of (held_of l.self))))
