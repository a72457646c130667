use Rattle.std.proofs.Common.{◌≡◌, ◌+◌, ◌-◌, ◌∷◌, Some, None, length, arith, sym, ap, ◌∙◌}
use Rattle.texml_input.specs.Held.{Plain}
use Rattle.texml_input.proofs.Plain.{list_front}
use Rattle.texml_input.proofs.turning.list_token.Goals as goal

pub returns-in-None-clause-takes : goal.returns-in-None-clause-takes
returns-in-None-clause-takes c =
    let i = c.len-count.result - 1 in
    let last : i + 1 ≡ length c.args.frames.now.items = omega (arith, c.args.frames.now.ok.0) in
    list_front c.args.frames.now.items i last c.index_mut.result.now c.next_of.new.frame None c.index_mut.ensures.value c.in-None.ensures

pub returns-in-Some-clause-takes : goal.returns-in-Some-clause-takes
returns-in-Some-clause-takes c =
    let i = c.len-count.result - 1 in
    let last : i + 1 ≡ length c.args.frames.now.items = omega (arith, c.args.frames.now.ok.0) in
    list_front c.args.frames.now.items i last c.index_mut.result.now c.next_of.new.frame (Some c.in-Some.token) c.index_mut.ensures.value c.in-Some.ensures
    ∙ ap (λ s. Plain c.in-Some.token ∷ s) (sym c.drop_spent.ensures.same)
