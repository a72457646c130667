use Rattle.std.proofs.Common.{sym, ap, ◌∙◌, if◌then◌else◌}
use Rattle.texml_token.specs.Numbers.{token_at}
use Rattle.texml_expand.specs.Take.{means}
use Rattle.texml_expand.specs.Conditionals.{face_of, frozen_face}
use Rattle.texml_expand.specs.Held.{world_in}
use Rattle.texml_expand.proofs.Faces.{no_longer}
use Rattle.texml_expand.proofs.engine.Engine.face.Goals as goal

pub returns-then-not-read : goal.returns-then-not-read
returns-then-not-read c =
    let mine = c.args.self.now in
    let t = token_at mine.names c.args.read.token in
    c.face_of.ensures mine.names ∙ ap face_of c.in_ok-meaning.ensures.means ∙ sym (ap (λ b. if b then frozen_face (world_in mine) t else face_of (means (world_in mine) t)) (no_longer c.args.read.frozen c.if-not-read.true))
