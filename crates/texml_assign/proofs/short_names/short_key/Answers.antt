use Rattle.std.proofs.Common.{Ok, Err}
use Rattle.texml_scope.specs.Numbers.{key_at}
use Rattle.texml_expand.specs.Contract.{outside}
use Rattle.texml_expand.specs.Hearing.{hears, hears_part}
use Rattle.texml_expand.proofs.Stopping.{passed_on}
use Rattle.texml_assign.proofs.Readings.{lawful_plain}
use Rattle.texml_assign.proofs.Parts.{plain_assign}
use Rattle.texml_assign.proofs.Doing.{does_then, does_stop, does_local}
use Rattle.texml_assign.specs.ShortNames.{short_equals}
use Rattle.texml_assign.proofs.Quantities.{relaxes, lawful_short_equals}
use Rattle.texml_assign.proofs.Worlds.{key_stays}
use Rattle.texml_assign.proofs.short_names.short_key.Goals as goal

pub returns-in_err-assign : goal.returns-in_err-assign
returns-in_err-assign g c =
    let old = c.args.engine.now in let mid = c.assign.new.engine in let k = c.in_err-assign.ensures in let e = c.in_err-assign.field-0.0 in let key = key_at old.names c.args.key in
    let h = does_stop (hears g.T.Teller.wanting g.T.Teller.heard) (hears_part g.T.Teller.wanting g.T.Teller.part) (λ n. relaxes c.args.global key) (λ _. short_equals c.args.global c.args.what key) (lawful_plain (relaxes c.args.global key) (plain_assign c.args.global key _)) (λ _. lawful_short_equals c.args.global c.args.what key) e old mid _ _ _ _ c.requires.sound
    (does_local _ _ (relaxes c.args.global key) (plain_assign c.args.global key _) (Err e) old mid (outside (g.F.Files.shelf c.args.files.now) (g.F.Files.faults c.args.files.now) (g.T.Teller.faults c.args.tell.now) (g.T.Teller.loan c.args.tell.now)) c.args.tell.now c.requires.owns k.sets k.kept tt k.advances k.files tt) in
    record { does = rw (passed_on c.from_residual.result c.in_err-assign.field-0.0 c.from_residual.ensures) h }

pub returns : goal.returns
returns g c = record {
  does =
      let old = c.args.engine.now in let mid = c.assign.new.engine in let k = c.in_ok-assign.ensures in let key = key_at old.names c.args.key in let new = c.short_equals.new.engine in
      let s = does_local (hears g.T.Teller.wanting g.T.Teller.heard) (hears_part g.T.Teller.wanting g.T.Teller.part) (relaxes c.args.global key) (plain_assign c.args.global key _) (Ok tt) old mid (outside (g.F.Files.shelf c.args.files.now) (g.F.Files.faults c.args.files.now) (g.T.Teller.faults c.args.tell.now) (g.T.Teller.loan c.args.tell.now)) c.args.tell.now c.requires.owns k.sets k.kept k.keeps k.advances k.files k.puts in
      does_then _ _ (λ n. relaxes c.args.global key) (λ _. short_equals c.args.global c.args.what key) (lawful_plain (relaxes c.args.global key) (plain_assign c.args.global key _)) (λ _. lawful_short_equals c.args.global c.args.what key) tt c.short_equals.result old mid new _ _ _ _ _ _ s
      (rw (← key_stays old.names mid.names s.keeps.grows c.args.key c.requires.key) c.short_equals.ensures.does);
}
