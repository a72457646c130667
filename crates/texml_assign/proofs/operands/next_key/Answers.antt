use Rattle.texml_token.specs.Numbers.{token_at}
use Rattle.texml_scope.specs.Numbers.{key_at}
use Rattle.texml_expand.specs.Held.{Kept, ok_at}
use Rattle.texml_assign.specs.Operands.{next_token, key_of}
use Rattle.texml_expand.proofs.Stopping.{passed_on}
use Rattle.texml_assign.proofs.Readings.{lawful_plain}
use Rattle.texml_assign.proofs.Doing.{does_then, does_stop, does_judge, kept_of, keeps_of}
use Rattle.texml_assign.proofs.Parts.{plain_next, plain_key_of}
use Rattle.texml_assign.proofs.operands.next_key.Goals as goal

pub returns-clause-does : goal.returns-clause-does
returns-clause-does g c =
    let mid = c.next_token.new.engine in let new = c.key_of.new.engine in let t = token_at mid.names c.in_ok-token.token in let r = c.key_of.result in let n = c.key_of.ensures in
    does_then _ _ (λ n. next_token) (λ t n. key_of t) (lawful_plain next_token plain_next) (λ t. lawful_plain (key_of t) (plain_key_of t)) t (ok_at (key_at new.names) r) _ mid new _ _ _ _ _ _ c.in_ok-token.ensures.does
    (does_judge _ _ (key_of t) (plain_key_of t) (ok_at (key_at new.names) r) mid new _ _ c.in_ok-token.ensures.does.holds.owns n.key (kept_of (key_at new.names) r new.stop n.kept) (keeps_of (key_at new.names) r (Kept mid new) n.keeps) n.is)

pub returns-in_err-token-clause-does : goal.returns-in_err-token-clause-does
returns-in_err-token-clause-does g c =
    let h = does_stop _ _ (λ n. next_token) (λ t n. key_of t) (lawful_plain next_token plain_next) (λ t. lawful_plain (key_of t) (plain_key_of t)) _ _ _ _ _ _ _ c.requires.sound c.in_err-token.ensures.does in
    rw (passed_on c.from_residual.result c.in_err-token.field-0.0 c.from_residual.ensures) h
