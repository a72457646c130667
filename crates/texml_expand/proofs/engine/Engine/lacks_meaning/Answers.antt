use Rattle.std.proofs.Common.{ap, ◌∙◌}
use Rattle.texml_scope.specs.Values.{meaning_in}
use Rattle.texml_expand.specs.Names.{is_undefined}
use Rattle.texml_expand.proofs.Named.{lacks_same}
use Rattle.texml_expand.proofs.engine.Engine.lacks_meaning.Goals as goal

pub returns : goal.returns
returns c = c.is_undefined.ensures ∙ lacks_same c.args.self.now.names c.in_ok-value.value ∙ ap (λ v. is_undefined (meaning_in v)) c.in_ok-value.ensures.is
