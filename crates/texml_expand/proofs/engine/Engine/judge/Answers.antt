use Rattle.std.proofs.Common.{sym, ap, ◌∙◌, if◌then◌else◌}
use Rattle.texml_token.specs.Numbers.{token_at}
use Rattle.texml_expand.specs.State.{give}
use Rattle.texml_expand.specs.Take.{meaning_of}
use Rattle.texml_expand.specs.Front.{Plain, front_by}
use Rattle.texml_expand.specs.Held.{world_in, state_of, read_at}
use Rattle.texml_expand.proofs.Judging.{judged_expands}
use Rattle.texml_expand.proofs.engine.Engine.judge.Goals as goal

pub returns-in-Some-clause-judges : goal.returns-in-Some-clause-judges
returns-in-Some-clause-judges c = λ shelf.
    let mine = c.args.self.now in
    let r = read_at mine.names c.args.read in
    let s = state_of shelf mine in
    ap (λ b. (if b then give (Plain r) else front_by r (meaning_of (world_in mine) (token_at mine.names c.args.read.token))) s) c.if-read.false
    ∙ ap (λ m. front_by r m s) (sym c.in-Ok.ensures.means)
    ∙ judged_expands mine.names r c.in-Ok.meaning c.in-Some.found s (sym c.is_undefined.ensures ∙ c.if-is_undefined.false) (sym c.expandable_by.ensures ∙ c.in-Some.is)
