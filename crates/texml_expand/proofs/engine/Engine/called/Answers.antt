use Rattle.std.proofs.Common.{[], length, refl, sym, ap, ◌==◌, ◌∙◌}
use Rattle.texml_token.specs.Numbers.{tokens_at}
use Rattle.texml_expand.specs.Arguments.{called}
use Rattle.texml_expand.specs.Fronts.{macro_at}
use Rattle.texml_expand.specs.Held.{state_of}
use Rattle.texml_expand.proofs.Called.{plain_called, empty_list, called_done, called_stop, called_within, puts_got, puts_stopped}
use Rattle.texml_expand.proofs.Getting.{gets_by}
use Rattle.texml_expand.proofs.Running.{runs_now, files_same}
use Rattle.texml_expand.proofs.Spending.{spends_same}
use Rattle.texml_expand.proofs.Stopping.{passed_on}
use Rattle.texml_expand.proofs.engine.Engine.called.Goals as goal

pub returns-then-is_empty-clause-gets : goal.returns-then-is_empty-clause-gets
returns-then-is_empty-clause-gets g c =
    let s = c.args.self.now in
    let m = c.args.found in
    let none = empty_list m.params.pieces (ap (λ ps. length ps == 0) (sym c.as_slice.ensures) ∙ sym c.is_empty.ensures ∙ c.if-is_empty.true) in
    puts_got (called (macro_at s.names m)) (tokens_at s.names m.body) s s _ _
    (gets_by (called (macro_at s.names m)) _ s s _ _ (λ told. ([], plain_called s.names (length s.names) m m.params.default m.params.pieces refl refl none c.requires.found.params.shape.default c.requires.found.body _))
    (spends_same (called (macro_at s.names m) (state_of (g.F.Files.shelf c.args.files.now) s)) _ _ s s (files_same s s refl))
    (runs_now (tokens_at s.names m.body) s _ c.requires.sound c.requires.running c.requires.owns))

pub returns-clause-gets : goal.returns-clause-gets
returns-clause-gets g c =
    let s = c.args.self.now in
    let m = c.args.found in
    puts_got (called (macro_at s.names m)) _ s c.macro_arguments.new.self _ _ (called_done s c.macro_arguments.new.self c.in_ok-args.ensures.gets.keeps.grows m c.requires.found c.in_ok-args.args.items _ _ c.in_ok-args.ensures.gets)

pub returns-clause-within : goal.returns-clause-within
returns-clause-within g c =
    called_within c.args.self.now.names c.macro_arguments.new.self.names c.in_ok-args.ensures.gets.keeps.grows c.args.found c.requires.found c.in_ok-args.args.items c.in_ok-args.ensures.within

pub returns-in_err-args-clause-gets : goal.returns-in_err-args-clause-gets
returns-in_err-args-clause-gets g c =
    let h = puts_stopped _ c.in_err-args.field-0.0 c.args.self.now c.macro_arguments.new.self _ _ (called_stop c.args.self.now c.macro_arguments.new.self c.args.found c.in_err-args.field-0.0 _ _ c.in_err-args.ensures.gets) in
    rw (passed_on c.from_residual.result c.in_err-args.field-0.0 c.from_residual.ensures) h
