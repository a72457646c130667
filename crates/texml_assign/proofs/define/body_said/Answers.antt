use Rattle.std.proofs.Common.{[], length, sym, ap, ◌∙◌}
use Rattle.std.specs.Option.{option_map}
use Rattle.texml_token.specs.Numbers.{tokens_at}
use Rattle.texml_token.specs.declared.fault_code.TheConstants.{BAD_PARAMETER}
use Rattle.texml_expand.specs.Held.{state_of, place_of}
use Rattle.texml_expand.proofs.Taking.{silent_fault}
use Rattle.texml_assign.specs.Parameters.{body_of}
use Rattle.texml_assign.specs.Define.{needed_body}
use Rattle.texml_assign.proofs.define.body_said.Goals as goal

pub returns-in-Ok-Some-clause-needs : goal.returns-in-Ok-Some-clause-needs
returns-in-Ok-Some-clause-needs c = λ shelf.
    let h = c.args.engine.now in
    ap (λ o. needed_body o (state_of shelf h)) (sym (c.in-Ok-Some.ensures.is h.names) ∙ ap (option_map (tokens_at h.names)) c.in-Ok-Some.field-0-is)

pub returns-in-Ok-Some-clause-within : goal.returns-in-Ok-Some-clause-within
returns-in-Ok-Some-clause-within c = rw c.in-Ok-Some.field-0-is at (c.in-Ok-Some.ensures.within (length c.args.engine.now.names) c.requires.list)

pub returns-in-Ok-None-clause-needs : goal.returns-in-Ok-None-clause-needs
returns-in-Ok-None-clause-needs c = λ shelf.
    let h = c.args.engine.now in
    silent_fault (needed_body (body_of c.args.slots (tokens_at h.names c.args.list.now)) (state_of shelf h)) BAD_PARAMETER [] (place_of h) c.bare_fault.result (state_of shelf c.bare_fault.new.self)
    (ap (λ o. needed_body o (state_of shelf h)) (sym (c.in-Ok-None.ensures.is h.names) ∙ ap (option_map (tokens_at h.names)) c.in-Ok-None.field-0-is)) c.bare_fault.ensures.is
