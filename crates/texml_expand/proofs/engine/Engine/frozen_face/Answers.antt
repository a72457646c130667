use Rattle.std.proofs.Common.{sym, ap, ◌∙◌}
use Rattle.texml_token.specs.Numbers.{token_at}
use Rattle.texml_expand.specs.Take.{means}
use Rattle.texml_expand.specs.Quantities.{frozen_as}
use Rattle.texml_expand.specs.Conditionals.{face_of}
use Rattle.texml_expand.specs.Held.{world_in}
use Rattle.texml_expand.proofs.Judging.{frozen_at}
use Rattle.texml_expand.proofs.Faces.{frozen_other}
use Rattle.texml_expand.proofs.engine.Engine.frozen_face.Goals as goal

pub returns : goal.returns
returns c =
    let mine = c.args.self.now in
    let w = world_in mine in
    let t = token_at mine.names c.args.token in
    let counts = ap (token_at mine.names) c.frozen_as.ensures ∙ sym (frozen_at mine.names c.args.token c.in_ok-meaning.meaning) ∙ ap (frozen_as t) c.in_ok-meaning.ensures.means in
    c.face_of.ensures mine.names ∙ ap face_of (c.in_ok-counted.ensures.means ∙ ap (means w) counts) ∙ sym (frozen_other mine.names w c.args.token c.in_default.not-Active)
