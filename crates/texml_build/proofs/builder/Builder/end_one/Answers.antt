use Rattle.std.proofs.lemmas.List.{length-map, length-reverse}
use Rattle.texml_build.proofs.Follow.{ended_follows}
use Rattle.texml_build.proofs.builder.Builder.end_one.Goals as goal

pub returns-in-Ok-clause-does : goal.returns-in-Ok-clause-does
returns-in-Ok-clause-does c = ended_follows _ _ _ (simp (length-map, length-reverse) c.requires) c.in-Ok.ensures.value
