use Rattle.std.proofs.Common.{◌≡◌, ◌++◌, FitsSigned, w32, int_lt, pos, false, unsigned_abs, ap, subst, ◌∙◌, rules}
use Rattle.std.proofs.lemmas.Int.{to_z-of_z}
use Rattle.texml_expand.specs.Printed.{roman}
use Rattle.texml_expand.proofs.Printing.{written, roman_of}
use Rattle.texml_expand.proofs.printed.printed_roman.Goals as goal

pub returns-clause-is : goal.returns-clause-is
returns-clause-is c =
    let fits : FitsSigned w32 c.args.value = search rules in
    let same = to_z-of_z w32 c.args.value fits in
    let up = subst (λ z. int_lt z (pos 0) ≡ false) same c.if-value-lt0.false in
    written c.tokens_of.result _ _
    (c.as_slice.ensures ∙ c.in_ok-put_roman.ensures ∙ ap (λ t. t ++ roman c.unsigned_abs.result) c.new-text.ensures ∙ ap roman (c.unsigned_abs.ensures.value ∙ ap unsigned_abs same) ∙ roman_of c.args.value up) c.tokens_of.ensures.is
