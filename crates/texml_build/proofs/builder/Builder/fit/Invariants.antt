use Rattle.std.proofs.Common.{◌≡◌, drop}
use Rattle.std.specs.Option.{option_map}
use Rattle.texml_model.specs.Rules.{rules_of}
use Rattle.texml_build.specs.Brackets.{fit}
use Rattle.texml_build.specs.Held.{held_of, path_of}
use Rattle.texml_build.proofs.Paths.{deepen}
use Rattle.texml_build.proofs.builder.Builder.fit.Given as goal

abbrev pub invariant-loop-n : goal.invariant-loop-n
invariant-loop-n l = fit (rules_of l.content) (path_of (held_of l.self)) (option_map (λ e. e.0) l.child) ≡ deepen l.n (fit (rules_of l.content) (drop l.n (path_of (held_of l.self))) (option_map (λ e. e.0) l.child))
