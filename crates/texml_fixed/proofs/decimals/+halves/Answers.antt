use Rattle.std.proofs.lemmas.List.{take_rest}
use Rattle.texml_fixed.proofs.Quotients.{halves_before}
use Rattle.texml_fixed.proofs.decimals.+halves.Goals as goal

pub returns-in-len1-up-clause-value : goal.returns-in-len1-up-clause-value
returns-in-len1-up-clause-value t c =
    halves_before c.args.digits.now c.halves.result c.from.result c.in-len1-up.len_at_least (simp take_rest at c.halves.ensures.value) c.from.ensures
