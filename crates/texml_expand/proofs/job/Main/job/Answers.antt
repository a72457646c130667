use Rattle.std.proofs.Common.{codes, ap, ◌∙◌}
use Rattle.std.specs.Str.{chars}
use Rattle.texml_expand.specs.Expansion.{last_part, without_end}
use Rattle.texml_expand.proofs.Printing.{written}
use Rattle.texml_expand.proofs.job.Main.job.Goals as goal

pub returns-clause-is : goal.returns-clause-is
returns-clause-is c =
    let text = c.deref.ensures.value ∙ c.in_ok-text-in-Ok.ensures ∙ ap chars (c.in-Ok.ensures.cases.0 ∙ c.as_slice.ensures ∙ c.self.view_is) in
    written c.printed_text.result _ _ (c.without_tex.ensures ∙ ap (without_end (codes ".tex")) (c.last_part.ensures ∙ ap last_part text)) c.printed_text.ensures.is
