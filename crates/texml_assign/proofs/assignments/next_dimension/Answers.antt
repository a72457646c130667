use Rattle.std.proofs.Common.{Ok, Err, refl, rules, FitsSigned, w32}
use Rattle.texml_scope.specs.declared.values.ValueOf.TheVariants as values
use Rattle.texml_expand.specs.Hearing.{hears, hears_part}
use Rattle.texml_expand.specs.Expand.{read_dimen}
use Rattle.texml_expand.proofs.Stopping.{passed_on}
use Rattle.texml_assign.proofs.Readings.{lawful_plain, plain_give}
use Rattle.texml_assign.proofs.Doing.{does_call, does_then, does_stop, does_now, no_more}
use Rattle.texml_assign.proofs.Quantities.{lawful_dimen, dimension_value}
use Rattle.std.proofs.lemmas.Int.{to_z-of_z}
use Rattle.texml_assign.proofs.assignments.next_dimension.Goals as goal

pub returns-in_err-dimension-clause-does : goal.returns-in_err-dimension-clause-does
returns-in_err-dimension-clause-does g c =
    let run = c.requires.running in let f = c.in_err-dimension.ensures in let mid = c.read_dimen.new.self in
    let s = does_call (hears g.T.Teller.wanting g.T.Teller.heard) (hears_part g.T.Teller.wanting g.T.Teller.part) read_dimen (λ z. z) (Err c.in_err-dimension.field-0.0) c.args.engine.now mid _ _ _ _ (f.follows run) (f.spends run) (f.stops run) (f.limit run) tt f.progress f.holds tt in
    let h = does_stop _ _ read_dimen (λ z n. dimension_value z) lawful_dimen (λ z. lawful_plain (dimension_value z) (plain_give _)) _ _ _ _ _ _ _ c.requires.sound s in rw (passed_on c.from_residual.result c.in_err-dimension.field-0.0 c.from_residual.ensures) h

pub returns-clause-does : goal.returns-clause-does
returns-clause-does g c =
    let run = c.requires.running in let f = c.in_ok-dimension.ensures in let mid = c.read_dimen.new.self in let z = c.in_ok-dimension.dimension in
    let s = does_call (hears g.T.Teller.wanting g.T.Teller.heard) (hears_part g.T.Teller.wanting g.T.Teller.part) read_dimen (λ z. z) (Ok z) c.args.engine.now mid _ _ _ _ (f.follows run) (f.spends run) (f.stops run) tt (f.keeps run) f.progress f.holds (no_more (f.lower run)) in
    let fits : FitsSigned w32 z.0 = search rules in rw (to_z-of_z w32 z.0 fits) (does_then _ _ read_dimen (λ z n. dimension_value z) lawful_dimen (λ z. lawful_plain (dimension_value z) (plain_give _)) z _ _ mid mid _ _ _ _ _ _ s
    (does_now _ _ (dimension_value z) (plain_give _) (values.Number z.0) mid _ _ s.keeps.sound s.holds.owns s.stops.kept (λ shelf. refl)))
