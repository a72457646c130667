use Rattle.std.proofs.Common.{sym, ap}
use Rattle.texml_token.specs.Numbers.{token_at}
use Rattle.texml_scope.specs.Numbers.{meaning_at}
use Rattle.texml_expand.specs.State.{Done, nothing}
use Rattle.texml_expand.specs.Held.{state_of}
use Rattle.texml_assign.specs.Operands.{behind_spaces, behind_equals, meaning_now}
use Rattle.texml_expand.proofs.Stopping.{passed_on}
use Rattle.texml_assign.proofs.Readings.{lawful_plain}
use Rattle.texml_assign.proofs.Doing.{does_then, does_stop, does_now, does_out}
use Rattle.texml_assign.proofs.Commands.{lawful_spaces, plain_behind_equals, plain_meaning_now, meant_behind, plain_meant_behind}
use Rattle.texml_assign.proofs.operands.meant.Goals as goal

pub returns-in_err-first-clause-does : goal.returns-in_err-first-clause-does
returns-in_err-first-clause-does g c =
    let h = does_stop _ _ behind_spaces (λ t n. meant_behind t) lawful_spaces (λ t. lawful_plain (meant_behind t) (plain_meant_behind t)) _ _ _ _ _ _ _ c.requires.sound c.in_err-first.ensures.does in rw (passed_on c.from_residual.result c.in_err-first.field-0.0 c.from_residual.ensures) h

pub returns-in_err-token-clause-does : goal.returns-in_err-token-clause-does
returns-in_err-token-clause-does g c =
    let f = c.in_ok-first.ensures.does in let t = token_at c.behind_spaces.new.engine.names c.in_ok-first.first in
    let h = does_then _ _ behind_spaces (λ t n. meant_behind t) lawful_spaces (λ t. lawful_plain (meant_behind t) (plain_meant_behind t)) t _ _ _ _ _ _ _ _ _ _ f
    (does_stop _ _ (λ n. behind_equals t) (λ u n. meaning_now u) (lawful_plain (behind_equals t) (plain_behind_equals t)) (λ u. lawful_plain (meaning_now u) (plain_meaning_now u)) _ _ _ _ _ _ _ f.keeps.sound c.in_err-token.ensures.does) in
    rw (passed_on c.from_residual-in_err-token.result c.in_err-token.field-0.0 c.from_residual-in_err-token.ensures) h

pub returns-in-Ok-clause-does : goal.returns-in-Ok-clause-does
returns-in-Ok-clause-does g c =
    let f = c.in_ok-first.ensures.does in let t = token_at c.behind_spaces.new.engine.names c.in_ok-first.first in
    let k = c.in_ok-token.ensures.does in let mid = c.behind_equals.new.engine in let u = token_at mid.names c.in_ok-token.token in
    let m = meaning_at mid.names c.in-Ok.meaning in
    does_then _ _ behind_spaces (λ t n. meant_behind t) lawful_spaces (λ t. lawful_plain (meant_behind t) (plain_meant_behind t)) t _ _ _ _ _ _ _ _ _ _ f
    (does_then _ _ (λ n. behind_equals t) (λ u n. meaning_now u) (lawful_plain (behind_equals t) (plain_behind_equals t)) (λ u. lawful_plain (meaning_now u) (plain_meaning_now u)) u _ _ mid mid _ _ _ _ _ _ k
    (does_now _ _ (meaning_now u) (plain_meaning_now u) m mid _ _ k.keeps.sound k.holds.owns k.stops.kept (λ shelf. ap (λ x. Done x (state_of shelf mid) nothing) (sym c.in-Ok.ensures.means))))

pub returns-in-Err-clause-does : goal.returns-in-Err-clause-does
returns-in-Err-clause-does g c =
    let f = c.in_ok-first.ensures.does in let t = token_at c.behind_spaces.new.engine.names c.in_ok-first.first in
    let k = c.in_ok-token.ensures.does in let mid = c.behind_equals.new.engine in let u = token_at mid.names c.in_ok-token.token in
    does_then _ _ behind_spaces (λ t n. meant_behind t) lawful_spaces (λ t. lawful_plain (meant_behind t) (plain_meant_behind t)) t _ _ _ _ _ _ _ _ _ _ f
    (does_then _ _ (λ n. behind_equals t) (λ u n. meaning_now u) (lawful_plain (behind_equals t) (plain_behind_equals t)) (λ u. lawful_plain (meaning_now u) (plain_meaning_now u)) u _ _ mid c.no_memory.new.self _ _ _ _ _ _ k
    (does_out _ _ (λ n. meaning_now u) (lawful_plain (meaning_now u) (plain_meaning_now u)) c.no_memory.result mid c.no_memory.new.self _ _ k.keeps.sound k.holds.owns c.no_memory.ensures.is c.no_memory.ensures.kept))
