use Rattle.std.proofs.Common.{Ok, Err, subst}
use Rattle.texml_expand.specs.Contract.{Local}
use Rattle.texml_expand.specs.Hearing.{hears, hears_part}
use Rattle.texml_expand.specs.Expand.{read_glue}
use Rattle.texml_expand.proofs.Stopping.{passed_on}
use Rattle.texml_assign.proofs.Doing.{does_call, does_then, does_stop, does_judge, no_more}
use Rattle.texml_assign.specs.Arithmetic.{fits, sum_of_glue}
use Rattle.texml_assign.proofs.Quantities.{lawful_glue, lawful_fits, plain_fits}
use Rattle.texml_assign.proofs.arithmetic.advanced_glue.Goals as goal

pub returns-in_err-more-clause-does : goal.returns-in_err-more-clause-does
returns-in_err-more-clause-does g c =
    let run = c.requires.running in let f = c.in_err-more.ensures in let old = c.args.engine.now in let mid = c.read_glue.new.self in let a = c.args.old in
    let s = does_call (hears g.T.Teller.wanting g.T.Teller.heard) (hears_part g.T.Teller.wanting g.T.Teller.part) read_glue (λ z. z) (Err c.in_err-more.field-0.0) old mid _ _ _ _ (f.follows run) (f.spends run) (f.stops run) (f.limit run) tt f.progress f.holds tt in
    let h = does_stop _ _ read_glue (λ b n. fits (sum_of_glue a b)) lawful_glue (λ b. lawful_fits (sum_of_glue a b)) _ _ _ _ _ _ _ c.requires.sound s in rw (passed_on c.from_residual.result c.in_err-more.field-0.0 c.from_residual.ensures) h

pub returns-clause-does : goal.returns-clause-does
returns-clause-does g c =
    let run = c.requires.running in let f = c.in_ok-more.ensures in let old = c.args.engine.now in let mid = c.read_glue.new.self in let a = c.args.old in let b = c.in_ok-more.more in let new = c.fits.new.engine in let k = c.fits.ensures in
    let s = does_call (hears g.T.Teller.wanting g.T.Teller.heard) (hears_part g.T.Teller.wanting g.T.Teller.part) read_glue (λ z. z) (Ok b) old mid _ _ _ _ (f.follows run) (f.spends run) (f.stops run) tt (f.keeps run) f.progress f.holds (no_more (f.lower run)) in
    does_then _ _ read_glue (λ b n. fits (sum_of_glue a b)) lawful_glue (λ b. lawful_fits (sum_of_glue a b)) b c.fits.result old mid new _ _ _ _ _ _ s
    (does_judge _ _ (fits (sum_of_glue a b)) (plain_fits (sum_of_glue a b)) c.fits.result mid new _ _ s.holds.owns (subst (λ r. Local (fits r) c.fits.result mid new) c.sum_of_glue.ensures.is k.fits) k.kept k.keeps k.same)
