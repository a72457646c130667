use Rattle.std.proofs.Common.{drop}
use Rattle.texml_model.specs.Rules.{rules_of}
use Rattle.texml_build.specs.Brackets.{each, own_attr}
use Rattle.texml_build.specs.Held.{held_of}
use Rattle.texml_build.proofs.Follow.{Leads}
use Rattle.texml_build.proofs.builder.Builder.own_attrs.Given as goal

abbrev pub invariant-loop-set : goal.invariant-loop-set
invariant-loop-set l = Leads (rules_of l.fn.content) (each (own_attr (rules_of l.fn.content)) (drop l.set-index l.set-items)) (held_of l.self) (each (own_attr (rules_of l.fn.content)) l.fn.sets) (held_of l.fn.self)
