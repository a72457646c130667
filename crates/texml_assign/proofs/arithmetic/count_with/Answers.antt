use Rattle.std.proofs.Common.{Ok, Err}
use Rattle.texml_scope.specs.Numbers.{key_at}
use Rattle.texml_expand.specs.Contract.{outside}
use Rattle.texml_expand.specs.Hearing.{hears, hears_part}
use Rattle.texml_expand.proofs.Stopping.{passed_on}
use Rattle.texml_assign.proofs.Readings.{lawful_plain}
use Rattle.texml_assign.proofs.Doing.{does_then, does_stop, does_judge}
use Rattle.texml_assign.specs.Arithmetic.{count_now, count_on}
use Rattle.texml_assign.proofs.Quantities.{plain_count_now, lawful_count_on, same_key, counted_variable}
use Rattle.texml_assign.proofs.arithmetic.count_with.Goals as goal

pub returns-in_err-old : goal.returns-in_err-old
returns-in_err-old g c =
    let old = c.args.engine.now in let mid = c.count_now.new.engine in let k = c.in_err-old.ensures in let e = c.in_err-old.field-0.0 in let key = key_at old.names c.args.key in
    let h = does_stop (hears g.T.Teller.wanting g.T.Teller.heard) (hears_part g.T.Teller.wanting g.T.Teller.part) (λ n. count_now key) (count_on c.args.global c.args.what key) (lawful_plain (count_now key) (plain_count_now key)) (lawful_count_on c.args.global c.args.what key) e old mid _ _ _ _ c.requires.sound
    (does_judge _ _ (count_now key) (plain_count_now key) (Err e) old mid (outside (g.F.Files.shelf c.args.files.now) (g.F.Files.faults c.args.files.now) (g.T.Teller.faults c.args.tell.now) (g.T.Teller.loan c.args.tell.now)) c.args.tell.now c.requires.owns k.is k.kept tt k.same) in
    record { does = rw (passed_on c.from_residual.result c.in_err-old.field-0.0 c.from_residual.ensures) h }

pub returns : goal.returns
returns g c = record {
  does =
      let old = c.args.engine.now in let mid = c.count_now.new.engine in let new = c.count_on.new.engine in let k = c.in_ok-old.ensures in let key = key_at old.names c.args.key in let v = c.in_ok-old.old in
      does_then _ _ (λ n. count_now key) (count_on c.args.global c.args.what key) (lawful_plain (count_now key) (plain_count_now key)) (lawful_count_on c.args.global c.args.what key) v c.count_on.result old mid new _ _ _ _ _ _
      (does_judge _ _ (count_now key) (plain_count_now key) (Ok v) old mid _ _ c.requires.owns k.is k.kept k.keeps k.same)
      (rw (same_key c.args.key (counted_variable c.args.key c.requires.key) old.names mid.names) c.count_on.ensures.does);
}
