use Rattle.std.proofs.Common.{Some, None, refl}
use Rattle.texml_token.specs.Numbers.{token_at}
use Rattle.texml_assign.specs.Operands.{token_or_end, needed}
use Rattle.texml_expand.proofs.Stopping.{passed_on}
use Rattle.texml_assign.proofs.Readings.{lawful_plain}
use Rattle.texml_assign.proofs.Doing.{does_then, does_stop, does_now, does_fault}
use Rattle.texml_assign.proofs.Commands.{plain_token_or_end, plain_needed}
use Rattle.texml_assign.proofs.operands.next_token.Goals as goal

pub returns-in_err-next-clause-does : goal.returns-in_err-next-clause-does
returns-in_err-next-clause-does g c =
    let h = does_stop _ _ (λ n. token_or_end) (λ o n. needed o) (lawful_plain token_or_end plain_token_or_end) (λ o. lawful_plain (needed o) (plain_needed o)) _ _ _ _ _ _ _ c.requires.sound c.in_err-next.ensures.does in
    rw (passed_on c.from_residual.result c.in_err-next.field-0.0 c.from_residual.ensures) h

pub returns-in-Some-clause-does : goal.returns-in-Some-clause-does
returns-in-Some-clause-does g c =
    let mid = c.token_or_end.new.engine in let f = rw c.in-Some.is at c.in_ok-next.ensures.does in let t = token_at mid.names c.in-Some.token in
    does_then _ _ (λ n. token_or_end) (λ o n. needed o) (lawful_plain token_or_end plain_token_or_end) (λ o. lawful_plain (needed o) (plain_needed o)) (Some t) _ _ mid mid _ _ _ _ _ _
    f (does_now _ _ (needed (Some t)) (plain_needed (Some t)) t mid _ _ f.keeps.sound f.holds.owns f.stops.kept (λ shelf. refl))

pub returns-in-None-clause-does : goal.returns-in-None-clause-does
returns-in-None-clause-does g c =
    let mid = c.token_or_end.new.engine in let f = rw c.in-None.is at c.in_ok-next.ensures.does in
    does_then _ _ (λ n. token_or_end) (λ o n. needed o) (lawful_plain token_or_end plain_token_or_end) (λ o. lawful_plain (needed o) (plain_needed o)) None _ _ mid c.bare_fault.new.self _ _ _ _ _ _
    f (does_fault _ _ (needed None) (plain_needed None) 4 c.bare_fault.result mid c.bare_fault.new.self _ _ f.holds.owns (λ shelf. refl) c.bare_fault.ensures.is c.bare_fault.ensures.kept)

pub returns-in-Some-clause-takes : goal.returns-in-Some-clause-takes
returns-in-Some-clause-takes g c = rw c.in-Some.is at c.in_ok-next.ensures.takes
