use Rattle.std.proofs.Common.{◌++◌, ap, ◌∙◌}
use Rattle.texml_fixed.specs.declared.glue.Order.TheVariants.{Pt}
use Rattle.texml_expand.specs.Printed.{printed_measure}
use Rattle.texml_expand.proofs.Printing.{written}
use Rattle.texml_expand.proofs.printed.printed_dimension.Goals as goal

pub returns-clause-is : goal.returns-clause-is
returns-clause-is c =
    written c.tokens_of.result _ _ (c.as_slice.ensures ∙ c.in_ok-put_measure.ensures ∙ ap (λ t. t ++ printed_measure c.args.value Pt) c.new-text.ensures) c.tokens_of.ensures.is
