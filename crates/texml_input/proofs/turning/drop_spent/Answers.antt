use Rattle.std.proofs.Common.{◌≡◌, ◌+◌, ◌-◌, length, arith, ap, ◌∙◌}
use Rattle.texml_input.specs.Inside.{sources_of}
use Rattle.texml_input.proofs.Plain.{spent_front}
use Rattle.texml_input.proofs.turning.drop_spent.Goals as goal

pub returns-then-is_spent-clause-same : goal.returns-then-is_spent-clause-same
returns-then-is_spent-clause-same c =
    let i = c.len-count.result - 1 in
    let last : i + 1 ≡ length c.args.frames.now.items = omega (arith, c.args.frames.now.ok.0) in
    ap sources_of c.truncate.ensures.items ∙ spent_front c.args.frames.now.items i last c.index.result.now c.index.ensures (c.is_spent.ensures c.if-is_spent.true)
