use Rattle.std.proofs.Common.{length}
use Rattle.texml_model.specs.Rules.{rules_of}
use Rattle.texml_build.specs.Brackets.{end_all}
use Rattle.texml_build.specs.Held.{held_of}
use Rattle.texml_build.proofs.Follow.{Leads}
use Rattle.texml_build.proofs.builder.Builder.finish.Given as goal

abbrev pub invariant-loop-at : goal.invariant-loop-at
invariant-loop-at l = Leads (rules_of l.fn.content) (end_all (rules_of l.fn.content)) (held_of l.self) (end_all (rules_of l.fn.content)) (held_of l.fn.self)

abbrev pub decreases-loop-at : goal.decreases-loop-at
decreases-loop-at l = length l.self.outer.items
