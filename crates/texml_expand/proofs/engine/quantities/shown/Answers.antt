use Rattle.std.proofs.Common.{◌≡◌, FitsSigned, w32, subst, rules}
use Rattle.std.specs.Fmt.{signed_decimal}
use Rattle.std.specs.Result.{IfOk}
use Rattle.std.proofs.lemmas.Int.{to_z-of_z}
use Rattle.texml_token.specs.Numbers.{Table, tokens_at}
use Rattle.texml_expand.specs.Printed.{printed_tokens}
use Rattle.std.proofs.lemmas.Result.{IfOk-weaker}
use Rattle.texml_expand.proofs.engine.quantities.shown.Goals as goal

pub returns-in-Number-clause-is : goal.returns-in-Number-clause-is
returns-in-Number-clause-is c =
    let fits : FitsSigned w32 c.in-Number.value = search rules in
    rw c.in-Number.is (subst (λ z. IfOk c.printed_number.result (λ list. (texts : Table) → tokens_at texts list ≡ printed_tokens (signed_decimal z))) (to_z-of_z w32 c.in-Number.value fits) c.printed_number.ensures.is)

pub returns-in-Number-clause-within : goal.returns-in-Number-clause-within
returns-in-Number-clause-within c = IfOk-weaker c.printed_number.result _ _ (λ list h count w. h count) c.printed_number.ensures.within

pub returns-in-Dimension-clause-is : goal.returns-in-Dimension-clause-is
returns-in-Dimension-clause-is c = rw c.in-Dimension.is c.printed_dimension.ensures.is

pub returns-in-Dimension-clause-within : goal.returns-in-Dimension-clause-within
returns-in-Dimension-clause-within c = IfOk-weaker c.printed_dimension.result _ _ (λ list h count w. h count) c.printed_dimension.ensures.within

pub returns-in-Glue-clause-is : goal.returns-in-Glue-clause-is
returns-in-Glue-clause-is c = rw c.in-Glue.is c.printed_glue.ensures.is

pub returns-in-Glue-clause-within : goal.returns-in-Glue-clause-within
returns-in-Glue-clause-within c = IfOk-weaker c.printed_glue.result _ _ (λ list h count w. h count) c.printed_glue.ensures.within
