use Rattle.std.proofs.Common.{length}
use Rattle.std.specs.Option.{option_map}
use Rattle.texml_token.specs.Numbers.{tokens_at}
use Rattle.texml_expand.specs.Held.{ok_at}
use Rattle.texml_expand.specs.Fronts.{looked_at}
use Rattle.texml_assign.specs.declared.fillers.Filler.TheVariants.{SpacesAndRelax}
use Rattle.texml_assign.specs.Fillers.{first_behind}
use Rattle.texml_assign.specs.Letters.{group_by}
use Rattle.texml_expand.proofs.Stopping.{passed_on}
use Rattle.texml_assign.proofs.Doing.{does_then, does_stop, takes_behind}
use Rattle.texml_assign.proofs.Quantities.{lawful_first}
use Rattle.texml_assign.proofs.LetterCases.{lawful_group_by}
use Rattle.texml_assign.proofs.letters.next_group.Goals as goal

pub returns-in_err-first-clause-does : goal.returns-in_err-first-clause-does
returns-in_err-first-clause-does g c =
    let h = does_stop _ _ (first_behind SpacesAndRelax) group_by (lawful_first SpacesAndRelax) lawful_group_by _ _ _ _ _ _ _ c.requires.sound c.in_err-first.ensures.does in rw (passed_on c.from_residual.result c.in_err-first.field-0.0 c.from_residual.ensures) h

pub returns-clause-does : goal.returns-clause-does
returns-clause-does g c =
    let mid = c.first_behind.new.engine in let new = c.group_by.new.engine in
    does_then _ _ (first_behind SpacesAndRelax) group_by (lawful_first SpacesAndRelax) lawful_group_by (option_map (looked_at mid.names) c.in_ok-first.first) (ok_at (tokens_at new.names) c.group_by.result) _ mid new _ _ _ _ _ _ c.in_ok-first.ensures.does
    c.group_by.ensures.does

pub returns-clause-takes : goal.returns-clause-takes
returns-clause-takes g c = takes_behind c.group_by.result length _ _ _ _ _ _ c.in_ok-first.ensures.does.shrinks c.group_by.ensures.takes
