use Rattle.std.proofs.Common.{Ok, Err, codes}
use Rattle.texml_scope.specs.Numbers.{key_at}
use Rattle.texml_expand.specs.Hearing.{hears, hears_part}
use Rattle.texml_expand.specs.Expand.{read_keyword}
use Rattle.texml_expand.proofs.Stopping.{passed_on}
use Rattle.texml_assign.proofs.Doing.{does_call, does_then, does_stop, no_more}
use Rattle.texml_assign.specs.Arithmetic.{count_with}
use Rattle.texml_assign.proofs.Quantities.{lawful_keyword, lawful_count_with, same_key, counted_variable}
use Rattle.texml_assign.proofs.arithmetic.count_by.Goals as goal

pub returns-in_err-read_keyword : goal.returns-in_err-read_keyword
returns-in_err-read_keyword g c =
    let run = c.requires.running in let f = c.in_err-read_keyword.ensures in let old = c.args.engine.now in let mid = c.read_keyword.new.self in let key = key_at old.names c.args.key in
    let s = does_call (hears g.T.Teller.wanting g.T.Teller.heard) (hears_part g.T.Teller.wanting g.T.Teller.part) (read_keyword (codes "by")) (λ z. z) (Err c.in_err-read_keyword.field-0.0) old mid _ _ _ _ (f.follows run) (f.spends run) (f.stops run) (f.limit run) tt f.progress f.holds tt in
    let h = does_stop _ _ (read_keyword (codes "by")) (λ _. count_with c.args.global c.args.what key) (lawful_keyword (codes "by")) (λ _. lawful_count_with c.args.global c.args.what key) _ _ _ _ _ _ _ c.requires.sound s in record { does = rw (passed_on c.from_residual.result c.in_err-read_keyword.field-0.0 c.from_residual.ensures) h }

pub returns : goal.returns
returns g c = record {
  does =
      let run = c.requires.running in let f = c.in_ok-read_keyword.ensures in let old = c.args.engine.now in let mid = c.read_keyword.new.self in let key = key_at old.names c.args.key in let b = c.in_ok-read_keyword.field-0 in
      let s = does_call (hears g.T.Teller.wanting g.T.Teller.heard) (hears_part g.T.Teller.wanting g.T.Teller.part) (read_keyword (codes "by")) (λ z. z) (Ok b) old mid _ _ _ _ (f.follows run) (f.spends run) (f.stops run) tt (f.keeps run) f.progress f.holds (no_more (f.lower run)) in
      does_then _ _ (read_keyword (codes "by")) (λ _. count_with c.args.global c.args.what key) (lawful_keyword (codes "by")) (λ _. lawful_count_with c.args.global c.args.what key) b c.count_with.result old mid c.count_with.new.engine _ _ _ _ _ _ s
      (rw (same_key c.args.key (counted_variable c.args.key c.requires.key) old.names mid.names) c.count_with.ensures.does);
}
