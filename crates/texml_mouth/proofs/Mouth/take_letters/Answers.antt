use Rattle.std.proofs.Common.{rules, ◌++◌, arith, sym, ◌∙◌, ap, append_assoc, length-drop, refl, append-nil}
use Rattle.std.proofs.lemmas.Grind.{common_steps}
use Rattle.texml_mouth.proofs.Biting.{word_letter, word_other, word_end}
use Rattle.texml_mouth.proofs.Mouth.take_letters.Goals as goal

pub loop-c-preserved : goal.loop-c-preserved
loop-c-preserved g c =
    let e = word_letter (g.C.Codes.cats c.args.codes.now) c.loop-c.self.spot.tail c.in-Some.c _ c.in-Some.ensures.first.0 (sym c.category.ensures.value ∙ c.if-category-ne-LETTER.false) in
    record {
      letters = c.loop-c.invariant.letters ∙ (ap (λ w. c.loop-c.text ++ w.letters) e ∙ rw (c.in_ok-push.ensures.ok, c.pass.ensures, append_assoc) refl);
      behind = c.loop-c.invariant.behind ∙ (ap (λ w. w.behind) e ∙ rw c.pass.ensures refl);
      fault = search rules;
      shorter = rw c.pass.ensures (omega (arith, length-drop 1 c.peek.new.self.spot.tail));
      scalars = grind (arith, common_steps);
    }

pub returns-then-category-ne-LETTER-clause-letters : goal.returns-then-category-ne-LETTER-clause-letters
returns-then-category-ne-LETTER-clause-letters g c =
    let e = word_other (g.C.Codes.cats c.args.codes.now) c.loop-c.self.spot.tail c.in-Some.c _ c.in-Some.ensures.first.0 (λ is. c.if-category-ne-LETTER.true (c.category.ensures.value ∙ is)) in
    sym (c.loop-c.invariant.letters ∙ (ap (λ w. c.loop-c.text ++ w.letters) e ∙ append-nil c.loop-c.text))

pub returns-then-category-ne-LETTER-clause-behind : goal.returns-then-category-ne-LETTER-clause-behind
returns-then-category-ne-LETTER-clause-behind g c =
    let e = word_other (g.C.Codes.cats c.args.codes.now) c.loop-c.self.spot.tail c.in-Some.c _ c.in-Some.ensures.first.0 (λ is. c.if-category-ne-LETTER.true (c.category.ensures.value ∙ is)) in
    c.in-Some.ensures.tail ∙ (c.in-Some.ensures.first.0 ∙ sym (c.loop-c.invariant.behind ∙ ap (λ w. w.behind) e))

pub returns-in_default-clause-letters : goal.returns-in_default-clause-letters
returns-in_default-clause-letters g c =
    let e = word_end (g.C.Codes.cats c.args.codes.now) c.loop-c.self.spot.tail c.in_default.ensures.first in
    sym (c.loop-c.invariant.letters ∙ (ap (λ w. c.loop-c.text ++ w.letters) e ∙ append-nil c.loop-c.text))

pub returns-in_default-clause-behind : goal.returns-in_default-clause-behind
returns-in_default-clause-behind g c =
    let e = word_end (g.C.Codes.cats c.args.codes.now) c.loop-c.self.spot.tail c.in_default.ensures.first in
    c.in_default.ensures.tail ∙ (c.in_default.ensures.first ∙ sym (c.loop-c.invariant.behind ∙ ap (λ w. w.behind) e))
