use Rattle.std.proofs.Common.{ap, ◌∙◌, subst}
use Rattle.texml_expand.specs.Contract.{Local}
use Rattle.texml_assign.specs.Targets.{target_of}
use Rattle.texml_assign.specs.Arithmetic.{counted}
use Rattle.texml_assign.proofs.arithmetic.counted_by.Goals as goal

pub returns-clause-is : goal.returns-clause-is
returns-clause-is c =
    let h = c.args.engine.now in
    subst (λ o. Local (counted o) c.countable.result h c.countable.new.engine) (c.target_of.ensures h.names ∙ ap target_of c.in-Ok.ensures.means) c.countable.ensures.is
