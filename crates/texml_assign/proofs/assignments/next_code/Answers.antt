use Rattle.std.proofs.Common.{Ok, Err, refl, pos, w32}
use Rattle.texml_scope.specs.declared.values.ValueOf.TheVariants as values
use Rattle.texml_expand.specs.Hearing.{hears, hears_part}
use Rattle.texml_expand.specs.Expand.{read_index}
use Rattle.texml_expand.specs.declared.variables.Index.TheVariants as index
use Rattle.texml_expand.proofs.Stopping.{passed_on}
use Rattle.texml_assign.proofs.Readings.{lawful_plain, plain_give}
use Rattle.texml_assign.proofs.Doing.{does_call, does_then, does_stop, does_now, no_more}
use Rattle.texml_assign.proofs.Quantities.{lawful_index_of, scalar_low, code_value}
use Rattle.std.proofs.lemmas.Int.{to_z_pos}
use Rattle.texml_assign.proofs.assignments.next_code.Goals as goal

pub returns-in_err-code-clause-does : goal.returns-in_err-code-clause-does
returns-in_err-code-clause-does g c =
    let run = c.requires.running in let f = c.in_err-code.ensures in let mid = c.read_index.new.self in
    let s = does_call (hears g.T.Teller.wanting g.T.Teller.heard) (hears_part g.T.Teller.wanting g.T.Teller.part) (read_index index.Character) (λ z. z) (Err c.in_err-code.field-0.0) c.args.engine.now mid _ _ _ _ (f.follows run) (f.spends run) (f.stops run) (f.limit run) tt f.progress f.holds tt in
    let h = does_stop _ _ (read_index index.Character) (λ z n. code_value z) (lawful_index_of index.Character) (λ z. lawful_plain (code_value z) (plain_give _)) _ _ _ _ _ _ _ c.requires.sound s in rw (passed_on c.from_residual.result c.in_err-code.field-0.0 c.from_residual.ensures) h

pub returns-clause-does : goal.returns-clause-does
returns-clause-does g c =
    let run = c.requires.running in let f = c.in_ok-code.ensures in let mid = c.read_index.new.self in let z = c.in_ok-code.code in
    let s = does_call (hears g.T.Teller.wanting g.T.Teller.heard) (hears_part g.T.Teller.wanting g.T.Teller.part) (read_index index.Character) (λ z. z) (Ok z) c.args.engine.now mid _ _ _ _ (f.follows run) (f.spends run) (f.stops run) tt (f.keeps run) f.progress f.holds (no_more (f.lower run)) in
    let low = scalar_low z (f.fits run) in rw (to_z_pos w32 z low) (does_then _ _ (read_index index.Character) (λ z n. code_value z) (lawful_index_of index.Character) (λ z. lawful_plain (code_value z) (plain_give _)) z _ _ mid mid _ _ _ _ _ _ s
    (does_now _ _ (code_value z) (plain_give _) (values.Number (pos z)) mid _ _ s.keeps.sound s.holds.owns s.stops.kept (λ shelf. refl)))
