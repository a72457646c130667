use Rattle.std.proofs.lemmas.List.{length-map, length-reverse}
use Rattle.texml_model.specs.Rules.{rules_of}
use Rattle.texml_build.specs.Held.{held_of}
use Rattle.texml_build.proofs.Follow.{label_put}
use Rattle.texml_build.proofs.builder.Builder.label.Goals as goal

pub returns-in-Ok : goal.returns-in-Ok
returns-in-Ok c = label_put (rules_of c.args.content.now) c.owner-n.result c.args.label.now c.args.number.now (held_of c.args.self.now) _ c.owner-n.ensures.value (simp (length-map, length-reverse) c.owner-n.ensures.within) c.in-Ok.ensures
