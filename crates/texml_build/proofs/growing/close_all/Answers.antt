use Rattle.std.proofs.Common.{◌∙◌}
use Rattle.std.proofs.lemmas.List.{length-map, length-reverse}
use Rattle.texml_tree.specs.Plain.{tree_of}
use Rattle.texml_model.specs.Rules.{rules_of}
use Rattle.texml_build.specs.Held.{held_of}
use Rattle.texml_build.proofs.Grows.{ends_well}
use Rattle.texml_build.proofs.growing.close_all.Goals as goal

pub returns-in-Ok-root-clause-value : goal.returns-in-Ok-root-clause-value
returns-in-Ok-root-clause-value c = λ ops f.
    ends_well (rules_of c.args.content.now) ops (held_of c.args.builder) (held_of c.finish.new.self) (tree_of c.new.result) f c.in-Ok.ensures.does (simp (length-map, length-reverse) c.in-Ok.ensures.root) (c.new.ensures ∙ c.in-Ok-root.ensures.value)
