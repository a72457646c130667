use Rattle.std.proofs.Common.{[], sym, ap, ◌∙◌}
use Rattle.std.specs.Option.{option_map}
use Rattle.texml_token.specs.Numbers.{tokens_at}
use Rattle.texml_token.specs.declared.fault_code.TheConstants.{BAD_PARAMETER}
use Rattle.texml_expand.specs.Held.{state_of, place_of}
use Rattle.texml_expand.proofs.Taking.{silent_fault}
use Rattle.texml_assign.specs.NewCommand.{needed_number, number_said}
use Rattle.texml_assign.proofs.new_command.number_said.Goals as goal

pub returns-in-Some-only_digit-clause-needs : goal.returns-in-Some-only_digit-clause-needs
returns-in-Some-only_digit-clause-needs c = λ shelf.
    let h = c.args.engine.now in
    ap (λ o. number_said (option_map (tokens_at h.names) o) (state_of shelf h)) c.in-Some.is ∙ ap (λ o. needed_number o (state_of shelf h)) (sym (c.only_digit.ensures.is h.names) ∙ c.in-Some-only_digit.is)

pub returns-in-None-only_digit-clause-needs : goal.returns-in-None-only_digit-clause-needs
returns-in-None-only_digit-clause-needs c = λ shelf.
    let h = c.args.engine.now in
    silent_fault (number_said (option_map (tokens_at h.names) c.args.said.now) (state_of shelf h)) BAD_PARAMETER [] (place_of h) c.bare_fault.result (state_of shelf c.bare_fault.new.self)
    (ap (λ o. number_said (option_map (tokens_at h.names) o) (state_of shelf h)) c.in-Some.is ∙ ap (λ o. needed_number o (state_of shelf h)) (sym (c.only_digit.ensures.is h.names) ∙ c.in-None-only_digit.is)) c.bare_fault.ensures.is
