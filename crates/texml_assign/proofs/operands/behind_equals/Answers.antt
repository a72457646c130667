use Rattle.std.proofs.Common.{Bool, Err, if◌then◌else◌, sym, ap, ◌∙◌}
use Rattle.texml_token.specs.Numbers.{token_at}
use Rattle.texml_expand.specs.State.{give}
use Rattle.texml_expand.specs.Held.{state_of}
use Rattle.texml_assign.specs.Operands.{next_token, behind_space, behind_sign, behind_equals}
use Rattle.texml_expand.proofs.Stopping.{passed_on}
use Rattle.texml_assign.proofs.Readings.{lawful_plain}
use Rattle.texml_assign.proofs.Doing.{does_then, does_stop, does_as}
use Rattle.texml_assign.proofs.Commands.{plain_next, plain_behind_space}
use Rattle.texml_assign.proofs.operands.behind_equals.Goals as goal

pub returns-clause-does : goal.returns-clause-does
returns-clause-does g c =
    let h = c.args.engine.now in let t = token_at h.names c.args.token in let mid = c.next_token.new.engine in
    let e = sym (c.is_equals.ensures h.names) ∙ c.if-not-is_equals.false in
    does_as _ _ (λ n. behind_equals t) (λ n. behind_sign) _ h _ _ _ _ _ (λ n shelf. ap (λ (b : Bool). (if b then behind_sign else give t) (state_of shelf h)) e)
    (does_then _ _ (λ n. next_token) (λ u n. behind_space u) (lawful_plain next_token plain_next) (λ u. lawful_plain (behind_space u) (plain_behind_space u)) (token_at mid.names c.in_ok-next.next) _ _ mid _ _ _ _ _ _ _
    c.in_ok-next.ensures.does c.behind_space.ensures.does)

pub returns-in_err-next-clause-does : goal.returns-in_err-next-clause-does
returns-in_err-next-clause-does g c =
    let h = c.args.engine.now in let t = token_at h.names c.args.token in let e = c.in_err-next.field-0.0 in
    let is = sym (c.is_equals.ensures h.names) ∙ c.if-not-is_equals.false in
    let d = does_as _ _ (λ n. behind_equals t) (λ n. behind_sign) (Err e) h _ _ _ _ _ (λ n shelf. ap (λ (b : Bool). (if b then behind_sign else give t) (state_of shelf h)) is)
    (does_stop _ _ (λ n. next_token) (λ u n. behind_space u) (lawful_plain next_token plain_next) (λ u. lawful_plain (behind_space u) (plain_behind_space u)) e _ _ _ _ _ _ c.requires.sound c.in_err-next.ensures.does) in
    rw (passed_on c.from_residual.result e c.from_residual.ensures) d
