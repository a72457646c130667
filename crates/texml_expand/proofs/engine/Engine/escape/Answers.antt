use Rattle.std.proofs.Common.{FitsSigned, w32, ap, ◌∙◌, rules}
use Rattle.std.proofs.lemmas.Int.{to_z-of_z}
use Rattle.texml_scope.specs.declared.values.KeyOf.TheVariants.{EscapeChar}
use Rattle.texml_scope.specs.Shown.{world_of}
use Rattle.texml_scope.specs.Values.{number_in}
use Rattle.texml_expand.specs.Held.{Held}
use Rattle.texml_expand.proofs.Spelled.{escape_says}
use Rattle.texml_expand.proofs.engine.Engine.escape.Goals as goal

pub returns : goal.returns
returns c =
    let fits : FitsSigned w32 c.unwrap_or.result = search rules in
    to_z-of_z w32 c.unwrap_or.result fits ∙ c.unwrap_or.ensures
    ∙ escape_says c.args.self.now c.requires.numbered c.number.result (c.number.ensures.value ∙ ap (λ (h : Held). number_in ((world_of h.scope).top EscapeChar)) c.self.view_is)
