use Rattle.std.proofs.Common.{[], sym, ap, ◌∙◌}
use Rattle.std.specs.Option.{option_map}
use Rattle.texml_token.specs.declared.fault_code.TheConstants.{MISSING_BRACE}
use Rattle.texml_expand.specs.Fronts.{looked_at}
use Rattle.texml_expand.specs.Held.{state_of, place_of}
use Rattle.texml_expand.proofs.Taking.{silent_fault}
use Rattle.texml_assign.specs.Assignments.{begins_list, needed_start, list_start}
use Rattle.texml_assign.proofs.assignments.list_start.Goals as goal

pub returns-in-Some-begins_list-clause-starts : goal.returns-in-Some-begins_list-clause-starts
returns-in-Some-begins_list-clause-starts c = λ shelf.
    let h = c.args.engine.now in
    rw c.in-Some.is (ap (λ o. needed_start o (state_of shelf h)) (ap begins_list (sym c.in-Ok.ensures.means) ∙ sym (c.begins_list.ensures.is h.names) ∙ c.in-Some-begins_list.is))

pub returns-clause-starts : goal.returns-clause-starts
returns-clause-starts c = λ shelf.
    let h = c.args.engine.now in let new = c.bare_fault-in-None.new.self in
    silent_fault (list_start (option_map (looked_at h.names) c.args.first) (state_of shelf h)) MISSING_BRACE [] (place_of h) c.bare_fault-in-None.result (state_of shelf new)
    (rw c.in-Some.is (ap (λ o. needed_start o (state_of shelf h)) (ap begins_list (sym c.in-Ok.ensures.means) ∙ sym (c.begins_list.ensures.is h.names) ∙ c.in-None.is))) c.bare_fault-in-None.ensures.is
