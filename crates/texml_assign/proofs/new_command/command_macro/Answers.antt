use Rattle.std.proofs.Common.{length, sym, ap, subst, ◌∙◌}
use Rattle.std.specs.Option.{option_map}
use Rattle.texml_token.specs.Numbers.{tokens_at}
use Rattle.texml_scope.specs.declared.values.MeaningOf.TheVariants.{Macro}
use Rattle.texml_scope.specs.Numbers.{meaning_at, MacroWithin}
use Rattle.texml_expand.specs.State.{Done, nothing}
use Rattle.texml_expand.specs.Held.{state_of}
use Rattle.texml_assign.specs.NewCommand.{parameter_count, first_default, argument_body, command_of}
use Rattle.texml_expand.proofs.Stopping.{passed_on}
use Rattle.texml_assign.proofs.Readings.{lawful_plain, plain_give}
use Rattle.texml_assign.proofs.Doing.{does_then, does_stop, does_now, does_out}
use Rattle.texml_assign.proofs.NewCommands.{plain_parameter_count, plain_first_default, plain_argument_body, body_read, default_read, plain_default_read, slots_read, plain_slots_read, command_at, command_within, default_stays, default_more}
use Rattle.texml_assign.proofs.new_command.command_macro.Goals as goal

pub returns-in_err-slots-clause-does : goal.returns-in_err-slots-clause-does
returns-in_err-slots-clause-does g c =
    let long = c.args.long in
    let h = does_stop _ _ (λ n. parameter_count) (λ slots n. slots_read long slots) (lawful_plain parameter_count plain_parameter_count) (λ slots. lawful_plain (slots_read long slots) (plain_slots_read long slots)) _ _ _ _ _ _ _ c.requires.sound c.in_err-slots.ensures.does in
    rw (passed_on c.from_residual.result c.in_err-slots.field-0.0 c.from_residual.ensures) h

pub returns-in_err-default-clause-does : goal.returns-in_err-default-clause-does
returns-in_err-default-clause-does g c =
    let long = c.args.long in let f = c.in_ok-slots.ensures.does in let slots = c.in_ok-slots.slots in
    let h = does_then _ _ (λ n. parameter_count) (λ slots n. slots_read long slots) (lawful_plain parameter_count plain_parameter_count) (λ slots. lawful_plain (slots_read long slots) (plain_slots_read long slots)) slots _ _ _ _ _ _ _ _ _ _ f
    (does_stop _ _ (λ n. first_default slots) (λ d n. default_read long slots d) (lawful_plain (first_default slots) (plain_first_default slots)) (λ d. lawful_plain (default_read long slots d) (plain_default_read long slots d)) _ _ _ _ _ _ _ f.keeps.sound c.in_err-default.ensures.does) in
    rw (passed_on c.from_residual-in_err-default.result c.in_err-default.field-0.0 c.from_residual-in_err-default.ensures) h

pub returns-in_err-body-clause-does : goal.returns-in_err-body-clause-does
returns-in_err-body-clause-does g c =
    let long = c.args.long in let f = c.in_ok-slots.ensures.does in let slots = c.in_ok-slots.slots in
    let k = c.in_ok-default.ensures.does in let d = option_map (tokens_at c.first_default.new.engine.names) c.in_ok-default.default in
    let h = does_then _ _ (λ n. parameter_count) (λ slots n. slots_read long slots) (lawful_plain parameter_count plain_parameter_count) (λ slots. lawful_plain (slots_read long slots) (plain_slots_read long slots)) slots _ _ _ _ _ _ _ _ _ _ f
    (does_then _ _ (λ n. first_default slots) (λ d n. default_read long slots d) (lawful_plain (first_default slots) (plain_first_default slots)) (λ d. lawful_plain (default_read long slots d) (plain_default_read long slots d)) d _ _ _ _ _ _ _ _ _ _ k
    (does_stop _ _ (λ n. argument_body slots) (λ b n. body_read long slots d b) (lawful_plain (argument_body slots) (plain_argument_body slots)) (λ b. lawful_plain (body_read long slots d b) (plain_give _)) _ _ _ _ _ _ _ k.keeps.sound c.in_err-body.ensures.does)) in
    rw (passed_on c.from_residual-in_err-body.result c.in_err-body.field-0.0 c.from_residual-in_err-body.ensures) h

pub returns-in-Ok-clause-does : goal.returns-in-Ok-clause-does
returns-in-Ok-clause-does g c =
    let long = c.args.long in let f = c.in_ok-slots.ensures.does in let slots = c.in_ok-slots.slots in
    let k = c.in_ok-default.ensures.does in let e2 = c.first_default.new.engine in let d = option_map (tokens_at e2.names) c.in_ok-default.default in
    let m = c.in_ok-body.ensures.does in let e3 = c.argument_body.new.engine in let body = tokens_at e3.names c.in_ok-body.body in
    let v = meaning_at e3.names (Macro c.in-Ok.made) in
    does_then _ _ (λ n. parameter_count) (λ slots n. slots_read long slots) (lawful_plain parameter_count plain_parameter_count) (λ slots. lawful_plain (slots_read long slots) (plain_slots_read long slots)) slots _ _ _ _ _ _ _ _ _ _ f
    (does_then _ _ (λ n. first_default slots) (λ d n. default_read long slots d) (lawful_plain (first_default slots) (plain_first_default slots)) (λ d. lawful_plain (default_read long slots d) (plain_default_read long slots d)) d _ _ _ _ _ _ _ _ _ _ k
    (does_then _ _ (λ n. argument_body slots) (λ b n. body_read long slots d b) (lawful_plain (argument_body slots) (plain_argument_body slots)) (λ b. lawful_plain (body_read long slots d b) (plain_give _)) body _ _ _ _ _ _ _ _ _ _ m
    (does_now _ _ (body_read long slots d body) (plain_give _) v e3 _ _ m.keeps.sound m.holds.owns m.stops.kept (λ shelf. ap (λ x. Done (Macro x) (state_of shelf e3) nothing)
    (ap (λ o. command_of long slots o body) (sym (default_stays e2.names e3.names c.in_ok-default.default m.keeps.grows c.in_ok-default.ensures.within)) ∙ sym (command_at e3.names long slots c.in_ok-default.default c.in_ok-body.body c.in-Ok.made c.in-Ok.ensures))))))

pub returns-in-Ok-clause-within : goal.returns-in-Ok-clause-within
returns-in-Ok-clause-within g c =
    let n = length c.argument_body.new.engine.names in let m = c.in_ok-body.ensures.does in let slots = c.in_ok-slots.slots in
    subst (MacroWithin n) (sym c.in-Ok.ensures)
    (command_within n c.args.long slots c.in_ok-default.default c.in_ok-body.body c.in_ok-slots.ensures.few (default_more (length c.first_default.new.engine.names) n c.in_ok-default.default m.keeps.grows.longer c.in_ok-default.ensures.within)
    c.in_ok-default.ensures.fits c.in_ok-body.ensures.within)

pub returns-in-Err-clause-does : goal.returns-in-Err-clause-does
returns-in-Err-clause-does g c =
    let long = c.args.long in let f = c.in_ok-slots.ensures.does in let slots = c.in_ok-slots.slots in
    let k = c.in_ok-default.ensures.does in let d = option_map (tokens_at c.first_default.new.engine.names) c.in_ok-default.default in
    let m = c.in_ok-body.ensures.does in let e3 = c.argument_body.new.engine in let body = tokens_at e3.names c.in_ok-body.body in
    does_then _ _ (λ n. parameter_count) (λ slots n. slots_read long slots) (lawful_plain parameter_count plain_parameter_count) (λ slots. lawful_plain (slots_read long slots) (plain_slots_read long slots)) slots _ _ _ _ _ _ _ _ _ _ f
    (does_then _ _ (λ n. first_default slots) (λ d n. default_read long slots d) (lawful_plain (first_default slots) (plain_first_default slots)) (λ d. lawful_plain (default_read long slots d) (plain_default_read long slots d)) d _ _ _ _ _ _ _ _ _ _ k
    (does_then _ _ (λ n. argument_body slots) (λ b n. body_read long slots d b) (lawful_plain (argument_body slots) (plain_argument_body slots)) (λ b. lawful_plain (body_read long slots d b) (plain_give _)) body _ _ _ _ _ _ _ _ _ _ m
    (does_out _ _ (λ n. body_read long slots d body) (lawful_plain (body_read long slots d body) (plain_give _)) c.no_memory.result e3 c.no_memory.new.self _ _ m.keeps.sound m.holds.owns c.no_memory.ensures.is c.no_memory.ensures.kept)))
