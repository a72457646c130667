use Rattle.std.proofs.Common.{ap, ◌∙◌}
use Rattle.texml_scan.specs.Grammar.{behind, verdict}
use Rattle.texml_scan.specs.Glue.{minus_then}
use Rattle.texml_scan.proofs.Amounts.{minus_next}
use Rattle.texml_scan.proofs.glue.GlueScan.minus.Goals as goal

pub returns-in-Next-clause-said : goal.returns-in-Next-clause-said
returns-in-Next-clause-said c more =
    ap (λ r. verdict (behind r (minus_then c.args.self.now.width c.args.self.now.stretch))) (c.in-Next.ensures.is more)
    ∙ minus_next c.args.self.now.minus_at c.args.look more c.args.self.now.width c.args.self.now.stretch
