use Rattle.std.proofs.Common.{arith, ◌∙◌, ap, ◌≤◌, length, suc}
use Rattle.texml_model.specs.Levels.{holding_with, chain_lists, missing}
use Rattle.texml_model.proofs.Walk.{found_length, widened, all_found}
use Rattle.texml_model.proofs.chains.chains_to.Goals as goal

pub widen-requires : goal.widen-requires
widen-requires c = ap length c.as_slice-in-loop-found.ensures.value ∙ found_length c.loop-found.found.items _ _ c.loop-found.invariant.is

pub returns-then-after-left : goal.returns-then-after-left
returns-then-after-left c =
    let m : missing (chain_lists c.loop-found.found.items) ≤ missing (chain_lists c.in_ok-next.next.items) = let z = ap (λ l. missing (chain_lists l)) c.as_slice-in-loop-found-2.ensures.value in omega (arith, z) in
    all_found (holding_with c.args.lines.now c.args.holds.now) c.args.child c.loop-found.invariant.level c.loop-found.found.items _ _ c.loop-found.invariant.is c.as_slice-in-loop-found.ensures.value c.in_ok-next.ensures m

pub loop-found-preserved : goal.loop-found-preserved
loop-found-preserved c = record {
  level = suc c.loop-found.invariant.level;
  is = widened (holding_with c.args.lines.now c.args.holds.now) c.args.child c.loop-found.invariant.level c.loop-found.found.items _ _ c.loop-found.invariant.is c.as_slice-in-loop-found.ensures.value c.in_ok-next.ensures;
  left = c.count_missing-after.ensures ∙ ap (λ l. missing (chain_lists l)) c.as_slice-in-loop-found-2.ensures.value;
}
