use Rattle.std.proofs.Common.{Ok, Err, Option}
use Rattle.std.specs.Option.{option_map}
use Rattle.texml_scope.specs.Numbers.{value_at}
use Rattle.texml_expand.specs.Contract.{outside}
use Rattle.texml_expand.specs.Held.{ok_at}
use Rattle.texml_expand.specs.Fronts.{looked_at}
use Rattle.texml_expand.specs.Hearing.{hears, hears_part}
use Rattle.texml_expand.proofs.Stopping.{passed_on}
use Rattle.texml_assign.proofs.Readings.{lawful_plain}
use Rattle.texml_assign.proofs.Doing.{does_then, does_stop, does_judge}
use Rattle.texml_assign.specs.Assignments.{list_start, list_from}
use Rattle.texml_assign.proofs.Quantities.{plain_list_start, lawful_list_from}
use Rattle.texml_expand.specs.Quantities.{Looked}
use Rattle.texml_assign.proofs.assignments.list_by.Goals as goal

pub returns-in_err-start-clause-does : goal.returns-in_err-start-clause-does
returns-in_err-start-clause-does g c =
    let old = c.args.engine.now in let new = c.list_start.new.engine in let o : Option Looked = option_map (looked_at old.names) c.args.first in let e = c.in_err-start.field-0.0 in let k = c.in_err-start.ensures in
    let h = does_stop (hears g.T.Teller.wanting g.T.Teller.heard) (hears_part g.T.Teller.wanting g.T.Teller.part) (λ n. list_start o) list_from (lawful_plain (list_start o) (plain_list_start o)) lawful_list_from e old new _ _ _ _ c.requires.sound
    (does_judge _ _ (list_start o) (plain_list_start o) (Err e) old new (outside (g.F.Files.shelf c.args.files.now) (g.F.Files.faults c.args.files.now) (g.T.Teller.faults c.args.tell.now) (g.T.Teller.loan c.args.tell.now)) c.args.tell.now c.requires.owns k.starts k.kept tt k.is) in
    rw (passed_on c.from_residual.result c.in_err-start.field-0.0 c.from_residual.ensures) h

pub returns-clause-does : goal.returns-clause-does
returns-clause-does g c =
    let old = c.args.engine.now in let mid = c.list_start.new.engine in let new = c.list_from.new.engine in let o : Option Looked = option_map (looked_at old.names) c.args.first in let k = c.in_ok-start.ensures in let st = c.in_ok-start.start in
    does_then _ _ (λ n. list_start o) list_from (lawful_plain (list_start o) (plain_list_start o)) lawful_list_from st (ok_at (value_at new.names) c.list_from.result) old mid new _ _ _ _ _ _
    (does_judge _ _ (list_start o) (plain_list_start o) (Ok st) old mid _ _ c.requires.owns k.starts k.kept k.keeps k.is)
    c.list_from.ensures.does
