use Rattle.std.specs.Prelude.{◌∷◌}
use Rattle.std.proofs.Common.{refl, ap, arith, rules, ◌∙◌}
use Rattle.texml_scan.specs.Grammar.{behind, verdict}
use Rattle.texml_scan.specs.Glue.{plus_then}
use Rattle.texml_scan.proofs.Amounts.{plus_next, no_plus, plus_breaks}
use Rattle.texml_scan.proofs.glue.GlueScan.plus.Goals as goal

pub returns-in-Next-clause-said : goal.returns-in-Next-clause-said
returns-in-Next-clause-said c more =
    ap (λ r. verdict (behind r (plus_then c.args.self.now.width))) (c.in-Next.ensures.is more)
    ∙ plus_next c.args.self.now.plus_at c.args.look more c.args.self.now.width (c.in-Next.ensures.letter refl) (c.in-Next.ensures.first refl)

pub returns-then-self-eq0-clause-said : goal.returns-then-self-eq0-clause-said
returns-then-self-eq0-clause-said c more =
    let none = no_plus c.args.self.now.plus_at c.args.look more c.args.self.now.width c.if-self-eq0.true (c.in-Missing.ensures.is more) in
    let left = c.begin_minus.ensures.left (c.args.look ∷ more) in
    let rest = c.minus.ensures.said more in
    search (rules, none, left, rest)

pub returns-else-self-eq0-clause-said : goal.returns-else-self-eq0-clause-said
returns-else-self-eq0-clause-said c more =
    let breaks = plus_breaks c.args.self.now.plus_at c.args.look more c.args.self.now.width (omega (arith, c.if-self-eq0.false)) (c.in-Missing.ensures.is more) in
    search (rules, breaks, c.new.ensures)
