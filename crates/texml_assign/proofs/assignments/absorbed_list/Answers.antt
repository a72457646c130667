use Rattle.std.proofs.Common.{false, Ok, Err, refl}
use Rattle.texml_token.specs.Numbers.{tokens_at}
use Rattle.texml_scope.specs.declared.values.ValueOf.TheVariants as values
use Rattle.texml_expand.specs.Absorb.{absorb}
use Rattle.texml_expand.specs.Hearing.{hears, hears_part}
use Rattle.texml_expand.proofs.Stopping.{passed_on}
use Rattle.texml_assign.proofs.Readings.{plain_give}
use Rattle.texml_assign.proofs.Parts.{lawful_absorb}
use Rattle.texml_assign.proofs.Doing.{does_call, does_then, does_stop, does_now, no_more}
use Rattle.texml_assign.proofs.Quantities.{list_value, lawful_list_value}
use Rattle.texml_assign.proofs.assignments.absorbed_list.Goals as goal

pub returns-in_err-list-clause-does : goal.returns-in_err-list-clause-does
returns-in_err-list-clause-does g c =
    let f = c.in_err-list.ensures in let mid = c.absorb.new.self in let run = c.requires.running in
    let s = does_call (hears g.T.Teller.wanting g.T.Teller.heard) (hears_part g.T.Teller.wanting g.T.Teller.part) (absorb false) (tokens_at mid.names) (Err c.in_err-list.field-0.0) c.args.engine.now mid _ _ _ _ (f.follows run) (f.spends run) (f.stops run) (f.limit run) tt f.progress f.holds tt in
    let h = does_stop _ _ (absorb false) (λ list n. list_value list) (lawful_absorb false) lawful_list_value _ _ _ _ _ _ _ c.requires.sound s in
    rw (passed_on c.from_residual.result c.in_err-list.field-0.0 c.from_residual.ensures) h

pub returns-clause-does : goal.returns-clause-does
returns-clause-does g c =
    let f = c.in_ok-list.ensures in let mid = c.absorb.new.self in let run = c.requires.running in let list = tokens_at mid.names c.in_ok-list.list in
    let s = does_call (hears g.T.Teller.wanting g.T.Teller.heard) (hears_part g.T.Teller.wanting g.T.Teller.part) (absorb false) (tokens_at mid.names) (Ok c.in_ok-list.list) c.args.engine.now mid _ _ _ _ (f.follows run) (f.spends run) (f.stops run) tt (f.keeps run) f.progress f.holds (no_more (f.lower run)) in
    does_then _ _ (absorb false) (λ list n. list_value list) (lawful_absorb false) lawful_list_value list _ _ mid mid _ _ _ _ _ _ s
    (does_now _ _ (list_value list) (plain_give _) (values.List list) mid _ _ s.keeps.sound s.holds.owns s.stops.kept (λ shelf. refl))
