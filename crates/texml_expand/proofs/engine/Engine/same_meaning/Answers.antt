use Rattle.std.proofs.Common.{ap, ◌∙◌}
use Rattle.texml_scope.specs.Equality.{meaning_eq}
use Rattle.texml_scope.specs.Numbers.{meaning_at}
use Rattle.texml_expand.specs.Take.{means}
use Rattle.texml_expand.specs.Held.{world_in}
use Rattle.texml_token.specs.Numbers.{token_at}
use Rattle.texml_scope.proofs.Meanings.{same_meaning_says}
use Rattle.texml_expand.proofs.engine.Engine.same_meaning.Goals as goal

pub returns : goal.returns
returns c =
    let mine = c.args.self.now in
    same_meaning_says mine.names c.requires.sound.numbered c.in_ok-first.first c.in_ok-second.second c.same_meaning.result c.in_ok-first.ensures.within c.in_ok-second.ensures.within c.same_meaning.ensures
    ∙ ap (λ m. meaning_eq m (meaning_at mine.names c.in_ok-second.second)) c.in_ok-first.ensures.means
    ∙ ap (meaning_eq (means (world_in mine) (token_at mine.names c.args.a))) c.in_ok-second.ensures.means
