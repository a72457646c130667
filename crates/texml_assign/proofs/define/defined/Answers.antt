use Rattle.std.proofs.Common.{length, sym, ap, subst, ◌∙◌, rules}
use Rattle.texml_token.specs.Numbers.{tokens_at}
use Rattle.texml_scope.specs.declared.values.MeaningOf.TheVariants.{Macro}
use Rattle.texml_scope.specs.Numbers.{meaning_at, MacroWithin}
use Rattle.texml_expand.specs.State.{Done, nothing}
use Rattle.texml_expand.specs.Held.{state_of}
use Rattle.texml_assign.specs.Parameters.{head_at}
use Rattle.texml_assign.specs.Define.{parameter_text, next_body, macro_of}
use Rattle.texml_expand.proofs.Stopping.{passed_on}
use Rattle.texml_assign.proofs.Readings.{lawful_plain, plain_give}
use Rattle.texml_assign.proofs.Doing.{does_then, does_stop, does_now, does_out}
use Rattle.texml_assign.proofs.Commands.{plain_parameter_text, lawful_next_body, body_taken, lawful_body_taken, head_taken, lawful_head_taken}
use Rattle.texml_assign.proofs.Macros.{head_stays, head_more, macro_at, macro_within}
use Rattle.texml_assign.proofs.define.defined.Goals as goal

pub returns-in_err-head-clause-does : goal.returns-in_err-head-clause-does
returns-in_err-head-clause-does g c =
    let ex = c.args.expanding in let long = c.args.long in
    let h = does_stop _ _ (λ n. parameter_text) (head_taken ex long) (lawful_plain parameter_text plain_parameter_text) (lawful_head_taken ex long) _ _ _ _ _ _ _ c.requires.sound c.in_err-head.ensures.does in
    rw (passed_on c.from_residual.result c.in_err-head.field-0.0 c.from_residual.ensures) h

pub returns-in_err-body-clause-does : goal.returns-in_err-body-clause-does
returns-in_err-body-clause-does g c =
    let ex = c.args.expanding in let long = c.args.long in let f = c.in_ok-head.ensures.does in let h = head_at c.parameter_text.new.engine.names c.in_ok-head.head in
    let d = does_then _ _ (λ n. parameter_text) (head_taken ex long) (lawful_plain parameter_text plain_parameter_text) (lawful_head_taken ex long) h _ _ _ _ _ _ _ _ _ _ f
    (does_stop _ _ (next_body ex h.slots) (λ body n. body_taken long h body) (lawful_next_body ex h.slots) (lawful_body_taken long h) _ _ _ _ _ _ _ f.keeps.sound c.in_err-body.ensures.does) in
    search (rules, d)

pub returns-in-Ok-clause-does : goal.returns-in-Ok-clause-does
returns-in-Ok-clause-does g c =
    let ex = c.args.expanding in let long = c.args.long in let f = c.in_ok-head.ensures.does in let e1 = c.parameter_text.new.engine in let h = head_at e1.names c.in_ok-head.head in
    let d = c.in_ok-body.ensures.does in let e2 = c.next_body.new.engine in let body = tokens_at e2.names c.in_ok-body.body in
    let v = meaning_at e2.names (Macro c.in-Ok.made) in
    does_then _ _ (λ n. parameter_text) (head_taken ex long) (lawful_plain parameter_text plain_parameter_text) (lawful_head_taken ex long) h _ _ _ _ _ _ _ _ _ _ f
    (does_then _ _ (next_body ex h.slots) (λ body n. body_taken long h body) (lawful_next_body ex h.slots) (lawful_body_taken long h) body _ _ _ _ _ _ _ _ _ _ d
    (does_now _ _ (body_taken long h body) (plain_give _) v e2 _ _ d.keeps.sound d.holds.owns d.stops.kept (λ shelf. ap (λ m. Done (Macro m) (state_of shelf e2) nothing)
    (ap (λ k. macro_of long k body) (sym (head_stays e1.names e2.names 0 d.keeps.grows c.in_ok-head.head c.in_ok-head.ensures.within)) ∙ sym (macro_at e2.names long c.in_ok-head.head c.in_ok-body.body c.in-Ok.made c.in-Ok.ensures)))))

pub returns-in-Ok-clause-within : goal.returns-in-Ok-clause-within
returns-in-Ok-clause-within g c =
    let n = length c.next_body.new.engine.names in let d = c.in_ok-body.ensures.does in
    subst (MacroWithin n) (sym c.in-Ok.ensures) (macro_within n c.args.long c.in_ok-head.head c.in_ok-body.body (head_more (length c.parameter_text.new.engine.names) n 0 d.keeps.grows.longer c.in_ok-head.head c.in_ok-head.ensures.within) c.in_ok-body.ensures.within)

pub returns-in-Err-clause-does : goal.returns-in-Err-clause-does
returns-in-Err-clause-does g c =
    let ex = c.args.expanding in let long = c.args.long in let f = c.in_ok-head.ensures.does in let e1 = c.parameter_text.new.engine in let h = head_at e1.names c.in_ok-head.head in
    let d = c.in_ok-body.ensures.does in let e2 = c.next_body.new.engine in let body = tokens_at e2.names c.in_ok-body.body in
    does_then _ _ (λ n. parameter_text) (head_taken ex long) (lawful_plain parameter_text plain_parameter_text) (lawful_head_taken ex long) h _ _ _ _ _ _ _ _ _ _ f
    (does_then _ _ (next_body ex h.slots) (λ body n. body_taken long h body) (lawful_next_body ex h.slots) (lawful_body_taken long h) body _ _ _ _ _ _ _ _ _ _ d
    (does_out _ _ (λ n. body_taken long h body) (lawful_body_taken long h body) c.no_memory.result e2 c.no_memory.new.self _ _ d.keeps.sound d.holds.owns c.no_memory.ensures.is c.no_memory.ensures.kept))
