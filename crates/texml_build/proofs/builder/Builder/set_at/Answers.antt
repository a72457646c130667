use Rattle.std.proofs.lemmas.List.{length-map, length-reverse}
use Rattle.texml_model.specs.Rules.{rules_of}
use Rattle.texml_build.specs.Held.{held_of}
use Rattle.texml_build.proofs.Follow.{attr_put}
use Rattle.texml_build.proofs.builder.Builder.set_at.Goals as goal

pub returns-in-Ok : goal.returns-in-Ok
returns-in-Ok c = attr_put (rules_of c.args.content.now) c.args.found c.in-Some.n c.args.attr c.args.value.now (held_of c.args.self.now) _ c.in-Some.is (simp (length-map, length-reverse) (c.requires c.in-Some.n c.in-Some.is)) c.in-Ok.ensures
