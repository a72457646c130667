use Rattle.std.proofs.Common.{◌≡◌, ◌+◌, ◌-◌, length, get_or, set, sym, ap, ◌∙◌, arith}
use Rattle.std.proofs.lemmas.List.{set-get_or}
use Rattle.texml_scope.specs.Shown.{world_of}
use Rattle.texml_input.specs.Codes.{cats_of}
use Rattle.texml_input.specs.Inside.{sources_of}
use Rattle.texml_input.proofs.Plain.{plain_front}
use Rattle.texml_input.proofs.turning.plain_token.Goals as goal

pub returns-in-File-clause-takes : goal.returns-in-File-clause-takes
returns-in-File-clause-takes c =
    let i = c.len-count.result - 1 in
    let last : i + 1 ≡ length c.args.frames.now.items = omega (arith, c.args.frames.now.ok.0) in
    plain_front c.args.frames.now.items i last (cats_of (world_of c.args.scope.now)) c.in-File.file c.plain_token.new.self c.plain_token.result
    (sym c.in-File.is ∙ c.index_mut.ensures.value ∙ ap (get_or c.args.frames.now.items i) c.in-File.is)
    c.plain_token.ensures.bites c.plain_token.ensures.same c.plain_token.ensures.lower c.plain_token.ensures.given

pub returns-clause-takes : goal.returns-clause-takes
returns-clause-takes c =
    let i = c.len-count.result - 1 in
    ap sources_of (ap (set c.args.frames.now.items i) c.index_mut.ensures.value ∙ set-get_or c.args.frames.now.items i c.index_mut.result.now)
