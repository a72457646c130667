use Rattle.std.proofs.Common.{drop}
use Rattle.texml_model.specs.Levels.{places_of}
use Rattle.texml_model.specs.Rules.{rules_of}
use Rattle.texml_build.specs.Brackets.{each, start_all}
use Rattle.texml_build.specs.Held.{held_of}
use Rattle.texml_build.proofs.Follow.{Leads, start_elem}
use Rattle.texml_build.proofs.builder.Builder.start_all.Given as goal

abbrev pub invariant-loop-elem : goal.invariant-loop-elem
invariant-loop-elem l = Leads (rules_of l.fn.content) (each (start_elem (rules_of l.fn.content)) (drop l.elem-index l.chain)) (held_of l.self) (start_all (rules_of l.fn.content) (places_of l.fn.chain)) (held_of l.fn.self)
