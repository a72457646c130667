use Rattle.std.proofs.Common.{◌∙◌, sym, true≢false}
use Rattle.texml_token.proofs.Table.{text-decides}
use Rattle.texml_scope.proofs.Entering.{place-found, place-not-text, place-not-built}
use Rattle.texml_scope.proofs.builtins.place_in.Goals as goal
use Rattle.texml_scope.proofs.builtins.place_in.Goals.{else-is_built-via-then-is_built+else-is_text, else-is_built-via-else-is_built}

pub returns-then-is_text : goal.returns-then-is_text
returns-then-is_text c =
    sym (place-found c.args.builtins.now c.args.name.now c.loop-builtin.builtin-index _ c.loop-builtin-test.true (sym c.is_built.ensures ∙ c.if-is_built.true) ((text-decides _ _).1 (sym (c.is_text.ensures.0 c.if-is_text.true))))
    ∙ c.loop-builtin.invariant

pub loop-builtin-preserved : goal.loop-builtin-preserved
loop-builtin-preserved c =
    elim c.else-is_built.branch [
      | else-is_built-via-then-is_built+else-is_text w ↦ place-not-text c.args.builtins.now c.args.name.now c.loop-builtin.builtin-index _ c.loop-builtin-test.true (λ e. true≢false (sym (w.is_text.ensures.1 e) ∙ w.if-is_text.false)) ∙ c.loop-builtin.invariant
      | else-is_built-via-else-is_built w ↦ place-not-built c.args.builtins.now c.args.name.now c.loop-builtin.builtin-index _ c.loop-builtin-test.true (sym c.is_built.ensures ∙ w.if-is_built.false) ∙ c.loop-builtin.invariant
    ]
