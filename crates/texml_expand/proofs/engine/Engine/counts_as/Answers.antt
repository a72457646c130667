use Rattle.std.proofs.Common.{sym, ap, ◌∙◌, if◌then◌else◌}
use Rattle.texml_token.specs.Numbers.{token_at}
use Rattle.texml_expand.specs.Take.{meaning_of}
use Rattle.texml_expand.specs.Quantities.{frozen_as}
use Rattle.texml_expand.specs.Held.{world_in}
use Rattle.texml_expand.proofs.Judging.{frozen_at}
use Rattle.texml_expand.proofs.Faces.{still}
use Rattle.texml_expand.proofs.engine.Engine.counts_as.Goals as goal

pub returns-clause-is : goal.returns-clause-is
returns-clause-is c =
    let mine = c.args.self.now in
    let t = token_at mine.names c.args.read.token in
    ap (token_at mine.names) c.frozen_as.ensures ∙ sym (frozen_at mine.names c.args.read.token c.in_ok-meaning.meaning) ∙ ap (frozen_as t) c.in_ok-meaning.ensures.means
    ∙ sym (ap (λ b. if b then frozen_as t (meaning_of (world_in mine) t) else t) (still c.args.read.frozen c.if-not-read.false))
