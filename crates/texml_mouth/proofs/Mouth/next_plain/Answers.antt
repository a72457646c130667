use Rattle.std.proofs.Common.{rules, ◌∙◌, drop}
use Rattle.texml_mouth.proofs.Biting.{plain_step}
use Rattle.texml_mouth.proofs.Mouth.next_plain.Goals as goal

pub returns-in_default-clause-bites : goal.returns-in_default-clause-bites
returns-in_default-clause-bites g c =
    let step = plain_step (g.C.Codes.cats c.args.codes.now) c.args.self.now.spot c.in_ok-c.c (drop 1 c.args.self.now.spot.tail) c.in_ok-c.ensures.first (search rules) in
    λ texts. step ∙ (search rules)
