use Rattle.std.specs.Prelude.{◌≡◌, ◌∷◌}
use Rattle.std.proofs.Common.{ap, rules}
use Rattle.texml_scan.specs.Grammar.{behind}
use Rattle.texml_scan.specs.Measure.{factor}
use Rattle.texml_scan.specs.MeasureRest.{number_left}
use Rattle.texml_scan.proofs.measure.Measuring.number.Goals as goal

pub returns-in-DoneBack-clause-stepped : goal.returns-in-DoneBack-clause-stepped
returns-in-DoneBack-clause-stepped c more =
    let read : number_left c.args.inner c.args.self.now.fil c.args.self.now.negative (c.args.look ∷ more) ≡ factor c.args.self.now.fil c.args.self.now.negative c.in-DoneBack.value (c.args.look ∷ more) =
    ap (λ r. behind r (factor c.args.self.now.fil c.args.self.now.negative)) (c.in-DoneBack.ensures.stepped more) in
    let later = c.factor-in-DoneBack.ensures.rest (c.args.look ∷ more) in
    let unit = c.unit.ensures.stepped more in
    search (rules, read, later, unit)
