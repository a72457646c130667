use Rattle.std.proofs.Common.{sym, ap, ◌∙◌}
use Rattle.texml_token.specs.Numbers.{token_at}
use Rattle.texml_token.specs.declared.fault_code.TheConstants.{UNDEFINED, NAME_TAKEN}
use Rattle.texml_expand.specs.Expand.{spelling}
use Rattle.texml_expand.specs.Held.{state_of, place_of}
use Rattle.texml_expand.proofs.Taking.{silent_fault}
use Rattle.texml_assign.specs.NewCommand.{defines, defines_now}
use Rattle.texml_assign.specs.Allowing.{allowed_as}
use Rattle.texml_assign.proofs.new_command.defines.Goals as goal

pub returns-in-Defines-clause-defines : goal.returns-in-Defines-clause-defines
returns-in-Defines-clause-defines c = λ shelf.
    let h = c.args.engine.now in let t = token_at h.names c.args.token in
    ap (λ m. defines c.args.naming t m (state_of shelf h)) (sym c.in-Ok.ensures.means) ∙ c.judged.ensures h.names t (state_of shelf h) ∙ ap (λ a. allowed_as a t (state_of shelf h)) c.in-Defines.is

pub returns-in-Stays-clause-defines : goal.returns-in-Stays-clause-defines
returns-in-Stays-clause-defines c = λ shelf.
    let h = c.args.engine.now in let t = token_at h.names c.args.token in
    ap (λ m. defines c.args.naming t m (state_of shelf h)) (sym c.in-Ok.ensures.means) ∙ c.judged.ensures h.names t (state_of shelf h) ∙ ap (λ a. allowed_as a t (state_of shelf h)) c.in-Stays.is

pub returns-in-Taken-clause-defines : goal.returns-in-Taken-clause-defines
returns-in-Taken-clause-defines c = λ shelf.
    let h = c.args.engine.now in let t = token_at h.names c.args.token in
    silent_fault (defines_now c.args.naming t (state_of shelf h)) NAME_TAKEN (spelling t) (place_of h) c.name_taken.result (state_of shelf c.name_taken.new.engine)
    (ap (λ m. defines c.args.naming t m (state_of shelf h)) (sym c.in-Ok.ensures.means) ∙ c.judged.ensures h.names t (state_of shelf h) ∙ ap (λ a. allowed_as a t (state_of shelf h)) c.in-Taken.is)
    c.name_taken.ensures.is

pub returns-clause-defines : goal.returns-clause-defines
returns-clause-defines c = λ shelf.
    let h = c.args.engine.now in let t = token_at h.names c.args.token in
    silent_fault (defines_now c.args.naming t (state_of shelf h)) UNDEFINED (spelling t) (place_of h) c.undefined.result (state_of shelf c.undefined.new.self)
    (ap (λ m. defines c.args.naming t m (state_of shelf h)) (sym c.in-Ok.ensures.means) ∙ c.judged.ensures h.names t (state_of shelf h) ∙ ap (λ a. allowed_as a t (state_of shelf h)) c.in-Missing.is)
    c.undefined.ensures.is
