use Rattle.std.proofs.Common.{sym, ap}
use Rattle.texml_scope.specs.Numbers.{key_at, value_at}
use Rattle.texml_expand.specs.State.{Done, nothing}
use Rattle.texml_expand.specs.Held.{state_of}
use Rattle.texml_expand.proofs.Stopping.{passed_on}
use Rattle.texml_assign.proofs.Readings.{lawful_plain}
use Rattle.texml_assign.proofs.Doing.{does_then, does_stop, does_now, does_out}
use Rattle.texml_assign.specs.Assignments.{value_now}
use Rattle.texml_assign.specs.Targets.{target_key}
use Rattle.texml_assign.proofs.Quantities.{lawful_target, plain_value_now}
use Rattle.texml_assign.proofs.assignments.copied_list.Goals as goal

pub returns-in_err-key-clause-does : goal.returns-in_err-key-clause-does
returns-in_err-key-clause-does g c =
    let h = does_stop _ _ (target_key c.args.target) (λ k n. value_now k) (lawful_target c.args.target) (λ k. lawful_plain (value_now k) (plain_value_now k)) _ _ _ _ _ _ _ c.requires.sound c.in_err-key.ensures.does in rw (passed_on c.from_residual.result c.in_err-key.field-0.0 c.from_residual.ensures) h

pub returns-in-Ok-clause-does : goal.returns-in-Ok-clause-does
returns-in-Ok-clause-does g c =
    let mid = c.target_key.new.engine in let s = c.in_ok-key.ensures.does in let k = key_at mid.names c.in_ok-key.key in let v = value_at mid.names c.in-Ok.value in
    does_then _ _ (target_key c.args.target) (λ k n. value_now k) (lawful_target c.args.target) (λ k. lawful_plain (value_now k) (plain_value_now k)) k _ _ mid mid _ _ _ _ _ _ s
    (does_now _ _ (value_now k) (plain_value_now k) v mid _ _ s.keeps.sound s.holds.owns s.stops.kept (λ shelf. ap (λ v. Done v (state_of shelf mid) nothing) (sym c.in-Ok.ensures.is)))

pub returns-in-Err-clause-does : goal.returns-in-Err-clause-does
returns-in-Err-clause-does g c =
    let mid = c.target_key.new.engine in let s = c.in_ok-key.ensures.does in let k = key_at mid.names c.in_ok-key.key in let new = c.no_memory.new.self in
    does_then _ _ (target_key c.args.target) (λ k n. value_now k) (lawful_target c.args.target) (λ k. lawful_plain (value_now k) (plain_value_now k)) k _ _ mid new _ _ _ _ _ _ s
    (does_out _ _ (λ n. value_now k) (lawful_plain (value_now k) (plain_value_now k)) c.no_memory.result mid new _ _ s.keeps.sound s.holds.owns c.no_memory.ensures.is c.no_memory.ensures.kept)
