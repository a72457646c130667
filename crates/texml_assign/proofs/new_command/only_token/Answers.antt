use Rattle.std.proofs.Common.{◌≤◌, ◌<◌, length, sym, subst, ◌∙◌}
use Rattle.texml_token.specs.Numbers.{TokenWithin, OptionWithin}
use Rattle.texml_assign.proofs.NewCommands.{only_space, only_first, only_second, only_end}
use Rattle.texml_assign.proofs.new_command.only_token.Goals.{then-not-has_category+else-is_some, else-not-has_category}
use Rattle.texml_assign.proofs.new_command.only_token.Goals as goal

pub returns-then-is_some-clause-is : goal.returns-then-is_some-clause-is
returns-then-is_some-clause-is c = λ texts.
    let l = c.loop-token in
    let lt : l.token-index < length c.args.list.now = rw c.as_slice-token-items.ensures at c.loop-token-test.true in
    let is = rw c.as_slice-token-items.ensures at (sym (c.has_category.ensures texts) ∙ c.if-not-has_category.true) in
    only_second c.args.list.now texts l.only l.token-index _ lt is (sym c.is_some.ensures ∙ c.if-is_some.true) (l.invariant.is texts)

pub loop-token-preserved : goal.loop-token-preserved
loop-token-preserved c =
    let l = c.loop-token in
    let lt : l.token-index < length c.args.list.now = rw c.as_slice-token-items.ensures at c.loop-token-test.true in
    elim c.if-not-has_category.branch [
      | then-not-has_category+else-is_some w ↦ record {
        is = λ texts.
            let is = rw c.as_slice-token-items.ensures at (sym (c.has_category.ensures texts) ∙ w.if-not-has_category.true) in
            only_first c.args.list.now texts l.only c.if-not-has_category.only l.token-index _ lt is (sym w.is_some.ensures ∙ w.if-is_some.false) (rw c.as_slice-token-items.ensures at w.only-is) (l.invariant.is texts);
        within = λ count h. subst (OptionWithin (TokenWithin count)) (sym (rw c.as_slice-token-items.ensures at w.only-is)) (h l.token-index _ lt);
      }
      | else-not-has_category w ↦ record {
        is = λ texts.
            let is = rw c.as_slice-token-items.ensures at (sym (c.has_category.ensures texts) ∙ w.if-not-has_category.false) in
            only_space c.args.list.now texts l.only c.if-not-has_category.only l.token-index _ lt is w.only-is (l.invariant.is texts);
        within = λ count h. subst (OptionWithin (TokenWithin count)) (sym w.only-is) (l.invariant.within count h);
      }
    ]

pub returns-clause-is : goal.returns-clause-is
returns-clause-is c = λ texts.
    let le : length c.args.list.now ≤ c.loop-token.token-index = rw c.as_slice-token-items.ensures at c.loop-token-test.false in
    only_end c.args.list.now texts c.loop-token.only c.loop-token.token-index le (c.loop-token.invariant.is texts)

pub returns-clause-within : goal.returns-clause-within
returns-clause-within c = λ count h. c.loop-token.invariant.within count h
