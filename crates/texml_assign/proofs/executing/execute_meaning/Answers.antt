use Rattle.std.proofs.Common.{Some, None, Ok, Err, refl, sym, ap, ◌∙◌}
use Rattle.texml_token.specs.Numbers.{token_at}
use Rattle.texml_expand.specs.State.{give}
use Rattle.texml_expand.specs.Held.{state_of}
use Rattle.texml_expand.specs.Contract.{outside}
use Rattle.texml_expand.specs.Hearing.{hears, hears_part}
use Rattle.texml_expand.proofs.Stopping.{passed_on}
use Rattle.texml_assign.specs.Doing.{Does}
use Rattle.texml_assign.specs.declared.executing.Executed.TheVariants.{Yes, NotMine}
use Rattle.texml_assign.specs.Table.{executable_of}
use Rattle.texml_assign.specs.Execute.{execute_word, execute_by, execute}
use Rattle.texml_assign.proofs.Readings.{plain_give}
use Rattle.texml_assign.proofs.Doing.{does_then, does_stop, does_now, does_as, does_out}
use Rattle.texml_assign.proofs.Commands.{lawful_word, lawful_yes, lawful_execute}
use Rattle.texml_assign.proofs.executing.execute_meaning.Goals as goal

pub returns-in-Err-clause-does : goal.returns-in-Err-clause-does
returns-in-Err-clause-does g c =
    let h = c.args.engine.now in let t = token_at h.names c.args.token in
    does_out _ _ (execute t) (lawful_execute t) c.no_memory.result h c.no_memory.new.self _ _ c.requires.sound c.requires.owns c.no_memory.ensures.is c.no_memory.ensures.kept

pub returns-in-Char-clause-does : goal.returns-in-Char-clause-does
returns-in-Char-clause-does g c =
    let h = c.args.engine.now in
    rw c.in-Char.is (does_now _ _ (give NotMine) (plain_give NotMine) NotMine h _ _ c.requires.sound c.requires.owns c.requires.running (λ shelf. refl))

pub returns-in-None-clause-does : goal.returns-in-None-clause-does
returns-in-None-clause-does g c =
    let h = c.args.engine.now in let t = token_at h.names c.args.token in
    let e = ap executable_of (sym c.in-Ok.ensures.means) ∙ sym (c.executable_of.ensures h.names) ∙ c.in-None.is in
    does_as _ _ (execute t) (execute_by None) (Ok NotMine) h h _ _ _ _ (λ n shelf. ap (λ x. execute_by x n (state_of shelf h)) e)
    (does_now _ _ (give NotMine) (plain_give NotMine) NotMine h _ _ c.requires.sound c.requires.owns c.requires.running (λ shelf. refl))

pub returns-in_err-execute_word-in-Some-clause-does : goal.returns-in_err-execute_word-in-Some-clause-does
returns-in_err-execute_word-in-Some-clause-does g c =
    let h = c.args.engine.now in let t = token_at h.names c.args.token in let x = c.in-Some.word in let e = c.in_err-execute_word-in-Some.field-0.0 in let new = c.execute_word.new.engine in
    let is = ap executable_of (sym c.in-Ok.ensures.means) ∙ sym (c.executable_of.ensures h.names) ∙ c.in-Some.is in
    let d : Does (hears g.T.Teller.wanting g.T.Teller.heard) (hears_part g.T.Teller.wanting g.T.Teller.part) (execute t) (Err e) h new (outside (g.F.Files.shelf c.args.files.now) (g.F.Files.faults c.args.files.now) (g.T.Teller.faults c.args.tell.now) (g.T.Teller.loan c.args.tell.now)) (outside (g.F.Files.shelf c.execute_word.new.files) (g.F.Files.faults c.execute_word.new.files) (g.T.Teller.faults c.execute_word.new.tell) (g.T.Teller.loan c.execute_word.new.tell)) c.args.tell.now c.execute_word.new.tell =
    does_as _ _ (execute t) (execute_by (Some x)) (Err e) h new _ _ _ _ (λ n shelf. ap (λ y. execute_by y n (state_of shelf h)) is)
    (does_stop _ _ (execute_word x) (λ _ n. give Yes) (lawful_word x) (λ _. lawful_yes) e h new _ _ _ _ c.requires.sound c.in_err-execute_word-in-Some.ensures.does) in
    rw (passed_on c.from_residual.result e c.from_residual.ensures) d

pub returns-clause-does : goal.returns-clause-does
returns-clause-does g c =
    let h = c.args.engine.now in let t = token_at h.names c.args.token in let x = c.in-Some.word in let new = c.execute_word.new.engine in
    let is = ap executable_of (sym c.in-Ok.ensures.means) ∙ sym (c.executable_of.ensures h.names) ∙ c.in-Some.is in
    let f = c.in_ok-execute_word-in-Some.ensures.does in
    does_as _ _ (execute t) (execute_by (Some x)) (Ok Yes) h new _ _ _ _ (λ n shelf. ap (λ y. execute_by y n (state_of shelf h)) is)
    (does_then _ _ (execute_word x) (λ _ n. give Yes) (lawful_word x) (λ _. lawful_yes) tt (Ok Yes) h new new _ _ _ _ _ _ f
    (does_now _ _ (give Yes) (plain_give Yes) Yes new _ _ f.keeps.sound f.holds.owns f.stops.kept (λ shelf. refl)))
