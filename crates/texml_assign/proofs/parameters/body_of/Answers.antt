use Rattle.std.proofs.Common.{◌≤◌, ◌<◌, length, sym, ap, subst, ◌∙◌}
use Rattle.std.specs.Option.{option_map}
use Rattle.texml_token.specs.Numbers.{token_at, BodyWithin}
use Rattle.texml_token.proofs.Translation.{body_token}
use Rattle.texml_assign.proofs.ParameterTexts.{step_marked, step_none, step_mark, step_plain, end_marked, end_plain, more_within}
use Rattle.texml_assign.proofs.parameters.body_of.Goals as goal
use Rattle.texml_assign.proofs.parameters.body_of.Goals.{then-marked+in-Some+in_ok-push-in-Some, else-marked+then-has_category, else-marked+else-has_category+in_ok-push}

pub returns-in-None-clause-is : goal.returns-in-None-clause-is
returns-in-None-clause-is c = λ texts.
    let l = c.loop-token in
    let lt : l.token-index < length c.args.list.now = rw c.as_slice-token-items.ensures at c.loop-token-test.true in
    let is = rw c.as_slice-token-items.ensures at (sym (ap (option_map (token_at texts)) c.in-None.is) ∙ c.marked_token.ensures.is texts) in
    step_none c.args.slots c.args.list.now texts l.body l.marked l.token-index _ lt c.if-marked.true is (l.invariant.is texts)

pub loop-token-preserved : goal.loop-token-preserved
loop-token-preserved c =
    let l = c.loop-token in
    let lt : l.token-index < length c.args.list.now = rw c.as_slice-token-items.ensures at c.loop-token-test.true in
    elim c.if-marked.branch [
      | then-marked+in-Some+in_ok-push-in-Some w ↦ record {
        is = λ texts.
            let is = rw c.as_slice-token-items.ensures at (sym (ap (option_map (token_at texts)) w.in-Some.is) ∙ w.marked_token.ensures.is texts) in
            step_marked c.args.slots c.args.list.now texts l.body c.if-marked.body l.marked c.if-marked.marked l.token-index _ w.in-Some.found lt w.if-marked.true is (w.body-is ∙ w.in_ok-push-in-Some.ensures.ok) w.marked-is (l.invariant.is texts);
        within = λ count h.
            let found = rw c.as_slice-token-items.ensures at (w.in-Some.ensures.within count) in
            more_within count c.args.slots l.body c.if-marked.body w.in-Some.found (w.body-is ∙ w.in_ok-push-in-Some.ensures.ok) (l.invariant.within count h) (found (h l.token-index _ lt));
      }
      | else-marked+then-has_category w ↦ record {
        is = λ texts.
            let is = rw c.as_slice-token-items.ensures at (sym (w.has_category.ensures texts) ∙ w.if-has_category.true) in
            step_mark c.args.slots c.args.list.now texts l.body c.if-marked.body l.marked c.if-marked.marked l.token-index _ lt w.if-marked.false is w.body-is w.marked-is (l.invariant.is texts);
        within = λ count h. subst (BodyWithin count c.args.slots) (sym w.body-is) (l.invariant.within count h);
      }
      | else-marked+else-has_category+in_ok-push w ↦ record {
        is = λ texts.
            let is = rw c.as_slice-token-items.ensures at (sym (w.has_category.ensures texts) ∙ w.if-has_category.false) in
            step_plain c.args.slots c.args.list.now texts l.body c.if-marked.body l.marked c.if-marked.marked l.token-index _ lt w.if-marked.false is (rw c.as_slice-token-items.ensures at (w.body-is ∙ w.in_ok-push.ensures.ok)) (w.marked-is ∙ w.if-marked.false) (l.invariant.is texts);
        within = λ count h.
            let is = rw c.as_slice-token-items.ensures at (w.body-is ∙ w.in_ok-push.ensures.ok) in
            more_within count c.args.slots l.body c.if-marked.body _ is (l.invariant.within count h) (body_token count c.args.slots _ (h l.token-index _ lt));
      }
    ]

pub returns-then-marked-2-clause-is : goal.returns-then-marked-2-clause-is
returns-then-marked-2-clause-is c = λ texts.
    let le : length c.args.list.now ≤ c.loop-token.token-index = rw c.as_slice-token-items.ensures at c.loop-token-test.false in
    end_marked c.args.slots c.args.list.now texts c.loop-token.body c.loop-token.marked c.loop-token.token-index le c.if-marked-2.true (c.loop-token.invariant.is texts)

pub returns-clause-is : goal.returns-clause-is
returns-clause-is c = λ texts.
    let le : length c.args.list.now ≤ c.loop-token.token-index = rw c.as_slice-token-items.ensures at c.loop-token-test.false in
    end_plain c.args.slots c.args.list.now texts c.loop-token.body c.loop-token.marked c.loop-token.token-index le c.if-marked-2.false (c.loop-token.invariant.is texts)
