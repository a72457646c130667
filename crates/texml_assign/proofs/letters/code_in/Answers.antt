use Rattle.std.proofs.Common.{sym, ap, ◌∙◌, length}
use Rattle.texml_scope.specs.Values.{number_in}
use Rattle.texml_expand.specs.Held.{world_in}
use Rattle.texml_assign.specs.Letters.{code_or}
use Rattle.texml_assign.proofs.LetterCases.{number_same}
use Rattle.texml_assign.proofs.letters.code_in.Goals as goal

pub value-requires-clause-key : goal.value-requires-clause-key
value-requires-clause-key c = c.case_key.ensures.within (length c.args.engine.now.names) c.requires.code

pub code_or-requires-clause-number : goal.code_or-requires-clause-number
code_or-requires-clause-number c = c.case_key.ensures.code c.in_ok-value.value c.in_ok-value.ensures.kind

pub returns-clause-is : goal.returns-clause-is
returns-clause-is c =
    let h = c.args.engine.now in
    c.code_or.ensures.is ∙ ap (code_or c.args.code) (sym (number_same h.names c.in_ok-value.value) ∙ ap number_in (c.in_ok-value.ensures.is ∙ ap (world_in h).top (c.case_key.ensures.is h.names)))
