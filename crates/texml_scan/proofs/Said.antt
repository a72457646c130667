-- An answer in full says what an answer says.
use Rattle.std.specs.Prelude.{◌≡◌, List, []}
use Rattle.std.proofs.Common.{refl, ap, ◌∙◌, arith}
use Rattle.texml_scan.specs.declared.looks.Look.{Look}
use Rattle.texml_scan.specs.declared.steps.ScanStep.{ScanStep}
use Rattle.texml_scan.specs.declared.steps.ScanStep.TheVariants as step
use Rattle.texml_scan.specs.Grammar.{Text, Read, Remainder, verdict, said, said_end, stepped, PutsOne}

pub stepped_says : {V : Type 0} (r : ScanStep V) (rest : Text V) (x : Look) (more : List Look) → PutsOne r →
    verdict (stepped r rest x more) ≡ said r (λ m. verdict (rest m)) more
stepped_says step.More rest x more one = refl
stepped_says step.Ask rest x more one = refl
stepped_says (step.Done v) rest x more one = refl
stepped_says (step.DoneBack v n) rest x more one = grind (arith, one)
stepped_says (step.Fault f) rest x more one = refl

-- the same at the end
pub end_says : {V : Type 0} (r s : ScanStep V) (rest : Text V) (x : Look) {read : Read V} → read ≡ stepped r rest x [] → PutsOne r →
    ((other : Remainder V) → said r other [] ≡ said_end s) → verdict read ≡ said_end s
end_says r s rest x is one says = ap verdict is ∙ stepped_says r rest x [] one ∙ says (λ m. verdict (rest m))
