use Rattle.std.proofs.Common.{Ok, Err, sym, subst, rules, FitsSigned, w32}
use Rattle.texml_scope.specs.Numbers.{value_at}
use Rattle.texml_expand.specs.Contract.{Local}
use Rattle.texml_expand.specs.Hearing.{hears, hears_part}
use Rattle.texml_expand.specs.Expand.{read_int}
use Rattle.texml_expand.proofs.Stopping.{passed_on}
use Rattle.texml_assign.proofs.Readings.{lawful_plain}
use Rattle.texml_assign.proofs.Doing.{does_call, does_then, does_stop, does_judge, no_more}
use Rattle.texml_assign.proofs.Quantities.{lawful_int, plain_category}
use Rattle.texml_assign.specs.Assignments.{category_of}
use Rattle.std.proofs.lemmas.Int.{to_z-of_z}
use Rattle.texml_assign.proofs.Doing.{kept_of, keeps_of}
use Rattle.texml_expand.specs.Held.{Held, Kept, ok_at}
use Rattle.std.proofs.Common.{to_z, of_z}
use Rattle.texml_assign.proofs.assignments.next_category.Goals as goal

pub returns-in_err-number-clause-does : goal.returns-in_err-number-clause-does
returns-in_err-number-clause-does g c =
    let run = c.requires.running in let f = c.in_err-number.ensures in let mid = c.read_int.new.self in
    let s = does_call (hears g.T.Teller.wanting g.T.Teller.heard) (hears_part g.T.Teller.wanting g.T.Teller.part) read_int (λ z. z) (Err c.in_err-number.field-0.0) c.args.engine.now mid _ _ _ _ (f.follows run) (f.spends run) (f.stops run) (f.limit run) tt f.progress f.holds tt in
    let h = does_stop _ _ read_int (λ z n. category_of z) lawful_int (λ z. lawful_plain (category_of z) (plain_category z)) _ _ _ _ _ _ _ c.requires.sound s in rw (passed_on c.from_residual.result c.in_err-number.field-0.0 c.from_residual.ensures) h

pub returns-clause-does : goal.returns-clause-does
returns-clause-does g c =
    let run = c.requires.running in let f = c.in_ok-number.ensures in let mid = c.read_int.new.self in let z = c.in_ok-number.number in
    let s = does_call (hears g.T.Teller.wanting g.T.Teller.heard) (hears_part g.T.Teller.wanting g.T.Teller.part) read_int (λ z. z) (Ok z) c.args.engine.now mid _ _ _ _ (f.follows run) (f.spends run) (f.stops run) tt (f.keeps run) f.progress f.holds (no_more (f.lower run)) in
    let k = c.category_of.ensures in let new = c.category_of.new.engine in let fits : FitsSigned w32 z = search rules in
    does_then _ _ read_int (λ z n. category_of z) lawful_int (λ z. lawful_plain (category_of z) (plain_category z)) z _ _ mid new _ _ _ _ _ _ s
    (does_judge _ _ (category_of z) (plain_category z) _ mid new _ _ s.holds.owns (subst (λ x. Local (category_of x) (ok_at (value_at new.names) c.category_of.result) mid new) (to_z-of_z w32 z fits) (subst (λ (h : Held). Local (category_of (to_z w32 (of_z w32 z))) (ok_at (value_at h.names) c.category_of.result) mid new) (sym k.same) k.is)) (kept_of (value_at new.names) c.category_of.result new.stop k.kept) (keeps_of (value_at new.names) c.category_of.result (Kept mid new) k.keeps) k.same)
