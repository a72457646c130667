use Rattle.std.proofs.Common.{Bool, if◌then◌else◌, sym, ap, ◌∙◌}
use Rattle.texml_token.specs.Numbers.{token_at}
use Rattle.texml_expand.specs.State.{give}
use Rattle.texml_expand.specs.Held.{state_of}
use Rattle.texml_assign.specs.Loop.{On}
use Rattle.texml_assign.specs.Table.{executable_of}
use Rattle.texml_expand.specs.Take.{means}
use Rattle.texml_expand.specs.Arguments.{means_space}
use Rattle.texml_assign.specs.Execute.{prefix_word}
use Rattle.texml_assign.proofs.executing.token_behind.Goals as goal

pub returns-then-means_space : goal.returns-then-means_space
returns-then-means_space c = λ shelf.
    let h = c.args.engine.now in let s = state_of shelf h in let p = c.args.prefixes in let m = means s.world (token_at h.names c.args.token) in
    let e = ap means_space (sym c.in_ok-meaning.ensures.means) ∙ sym (c.means_space.ensures h.names) ∙ c.if-means_space.true in
    ap (λ (b : Bool). (if b then give (On p) else prefix_word p (executable_of m)) s) e

pub returns : goal.returns
returns c = λ shelf.
    let h = c.args.engine.now in let s = state_of shelf h in let p = c.args.prefixes in let m = means s.world (token_at h.names c.args.token) in
    let e = ap means_space (sym c.in_ok-meaning.ensures.means) ∙ sym (c.means_space.ensures h.names) ∙ c.if-means_space.false in
    let k = ap executable_of (sym c.in_ok-meaning.ensures.means) ∙ sym (c.executable_of.ensures h.names) in
    ap (λ (b : Bool). (if b then give (On p) else prefix_word p (executable_of m)) s) e ∙ ap (λ x. prefix_word p x s) k ∙ c.word_behind.ensures s
