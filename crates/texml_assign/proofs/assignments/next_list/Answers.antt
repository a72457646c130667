use Rattle.std.specs.Option.{option_map}
use Rattle.texml_scope.specs.Numbers.{value_at}
use Rattle.texml_expand.specs.Held.{ok_at}
use Rattle.texml_expand.specs.Fronts.{looked_at}
use Rattle.texml_expand.proofs.Stopping.{passed_on}
use Rattle.texml_assign.proofs.Doing.{does_then, does_stop}
use Rattle.texml_assign.specs.Assignments.{list_by}
use Rattle.texml_assign.specs.Fillers.{first_behind}
use Rattle.texml_assign.specs.declared.fillers.Filler.TheVariants.{SpacesAndRelax}
use Rattle.texml_assign.proofs.Quantities.{lawful_first, lawful_list_by}
use Rattle.texml_assign.proofs.assignments.next_list.Goals as goal

pub returns-in_err-first-clause-does : goal.returns-in_err-first-clause-does
returns-in_err-first-clause-does g c =
    let old = c.args.engine.now in
    let h = does_stop _ _ (first_behind SpacesAndRelax) list_by (lawful_first SpacesAndRelax) lawful_list_by _ _ _ _ _ _ _ c.requires.sound c.in_err-first.ensures.does in rw (passed_on c.from_residual.result c.in_err-first.field-0.0 c.from_residual.ensures) h

pub returns-clause-does : goal.returns-clause-does
returns-clause-does g c =
    let old = c.args.engine.now in let mid = c.first_behind.new.engine in let new = c.list_by.new.engine in
    does_then _ _ (first_behind SpacesAndRelax) list_by (lawful_first SpacesAndRelax) lawful_list_by (option_map (looked_at mid.names) c.in_ok-first.first) (ok_at (value_at new.names) c.list_by.result) _ mid new _ _ _ _ _ _ c.in_ok-first.ensures.does
    c.list_by.ensures.does
