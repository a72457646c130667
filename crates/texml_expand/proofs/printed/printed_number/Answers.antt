use Rattle.std.proofs.Common.{FitsSigned, w32, ap, ◌∙◌, rules}
use Rattle.std.specs.Fmt.{signed_decimal}
use Rattle.std.proofs.lemmas.Int.{to_z-of_z}
use Rattle.texml_expand.proofs.Printing.{written}
use Rattle.texml_expand.proofs.printed.printed_number.Goals as goal

pub returns-clause-is : goal.returns-clause-is
returns-clause-is c =
    let fits : FitsSigned w32 c.args.value = search rules in
    written c.tokens_of.result _ _ (c.as_bytes.ensures.value ∙ c.in_ok-text.ensures.ok ∙ ap signed_decimal (to_z-of_z w32 c.args.value fits)) c.tokens_of.ensures.is
