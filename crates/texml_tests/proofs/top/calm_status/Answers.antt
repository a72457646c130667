use Rattle.std.proofs.Common.{refl, arith}
use Rattle.texml_top.proofs.Outcomes.{with_weaker}
use Rattle.texml_tests.proofs.top.calm_status.Goals as goal

pub returns : goal.returns
returns c = λ memory. with_weaker _ (λ all ends. ends.0) (c.run.ensures.outcome refl (λ rose. absurd (omega (arith, rose))) (λ rose. absurd (omega (arith, rose))) memory)
