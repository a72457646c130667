use Rattle.std.proofs.Common.{arith, ◌<◌, ◌≡◌, length, sym, subst, List, [], ℕ}
use Rattle.std.proofs.lemmas.List.{length-map, length-reverse}
use Rattle.std.proofs.lemmas.Bool.Decides.{nat_tests}
use Rattle.texml_tree.specs.declared.model_fault.TheConstants.{UNCLOSED}
use Rattle.texml_model.specs.Rules.{rules_of}
use Rattle.texml_build.specs.Brackets.{fault_of, end_all}
use Rattle.texml_build.specs.Held.{held_of, Refuses}
use Rattle.texml_build.proofs.Follow.{end_next, end_done, end_refused}
use Rattle.texml_build.proofs.builder.Builder.finish.Goals as goal

pub loop-at-preserved : goal.loop-at-preserved
loop-at-preserved c =
    let some : 0 < length c.loop-at.self.outer.items = grind (arith, nat_tests) in
    end_next (rules_of c.args.content.now) (held_of c.loop-at.self) (held_of c.end_one.new.self) (end_all (rules_of c.args.content.now)) (held_of c.args.self.now) (simp (length-map, length-reverse) some) (sym c.if-not-closes.ensures) c.loop-at.invariant c.in_ok-end_one.ensures.does

pub returns-then-not-closes-clause-does : goal.returns-then-not-closes-clause-does
returns-then-not-closes-clause-does c =
    let some : 0 < length c.loop-at.self.outer.items = grind (arith, nat_tests) in
    end_refused (rules_of c.args.content.now) (held_of c.loop-at.self) (held_of c.loop-at.self) (end_all (rules_of c.args.content.now)) (held_of c.args.self.now) _ (simp (length-map, length-reverse) some) (sym c.if-not-closes.ensures) c.loop-at.invariant (subst (λ (n : List ℕ). Refuses (fault_of UNCLOSED n []) c.refuse.result) c.name.ensures c.refuse.ensures)

pub returns-clause-does : goal.returns-clause-does
returns-clause-does c =
    let none : length c.loop-at.self.outer.items ≡ 0 = grind (arith, nat_tests) in
    end_done (rules_of c.args.content.now) (held_of c.loop-at.self) (end_all (rules_of c.args.content.now)) (held_of c.args.self.now) (simp (length-map, length-reverse) none) c.loop-at.invariant
