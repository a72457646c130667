use Rattle.texml_token.proofs.Table.{extends_trans}
use Rattle.texml_scope.specs.Builtins.{row_of, with_builtin, with_builtin_names}
use Rattle.texml_scope.proofs.Entering.{enters_more, placed}
use Rattle.texml_scope.proofs.first.enter_all.Goals as goal

pub enter-requires-clause-place : goal.enter-requires-clause-place
enter-requires-clause-place c = placed (λ b. b.0) c.args.builtins.now c.requires.places c.loop-builtin.builtin-index _ c.loop-builtin-test.true

pub returns-in_err-enter-clause-grows : goal.returns-in_err-enter-clause-grows
returns-in_err-enter-clause-grows c = extends_trans _ _ _ c.loop-builtin.invariant.grows c.in_err-enter.ensures.grows

pub loop-builtin-preserved : goal.loop-builtin-preserved
loop-builtin-preserved c =
    let e = c.in_ok-enter.ensures in
    enters_more row_of with_builtin with_builtin_names c.args.builtins.now _ _ c.loop-builtin.builtin-index _ _ _ _ _ _ c.loop-builtin-test.true c.loop-builtin.invariant e.world e.names e.covered e.grows e.numbered
