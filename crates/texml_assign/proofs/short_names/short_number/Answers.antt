use Rattle.std.proofs.Common.{Ok, Err}
use Rattle.texml_scope.specs.Numbers.{key_at}
use Rattle.texml_expand.specs.State.{change}
use Rattle.texml_expand.specs.Hearing.{hears, hears_part}
use Rattle.texml_expand.specs.Expand.{read_index}
use Rattle.texml_expand.proofs.Stopping.{passed_on}
use Rattle.texml_assign.proofs.Readings.{lawful_plain}
use Rattle.texml_assign.proofs.Parts.{plain_assign}
use Rattle.texml_assign.proofs.Doing.{does_call, does_then, does_stop, does_local, no_more}
use Rattle.texml_assign.specs.Sets.{assign}
use Rattle.texml_assign.specs.ShortNames.{short_index, short_meaning}
use Rattle.texml_assign.proofs.Quantities.{lawful_index_of}
use Rattle.texml_assign.proofs.Worlds.{key_stays}
use Rattle.texml_assign.proofs.short_names.short_number.Goals as goal

pub returns-in_err-number : goal.returns-in_err-number
returns-in_err-number g c =
    let run = c.requires.running in let f = c.in_err-number.ensures in let old = c.args.engine.now in let mid = c.read_index.new.self in
    let s = rw c.short_index.ensures at (does_call (hears g.T.Teller.wanting g.T.Teller.heard) (hears_part g.T.Teller.wanting g.T.Teller.part) (read_index c.short_index.result) (λ z. z) (Err c.in_err-number.field-0.0) old mid _ _ _ _ (f.follows run) (f.spends run) (f.stops run) (f.limit run) tt f.progress f.holds tt) in
    let h = does_stop _ _ (read_index (short_index c.args.what)) (λ number n. change (assign c.args.global (key_at old.names c.args.key) (short_meaning c.args.what number))) (lawful_index_of (short_index c.args.what)) (λ number. lawful_plain (change (assign c.args.global (key_at old.names c.args.key) (short_meaning c.args.what number))) (plain_assign c.args.global (key_at old.names c.args.key) (short_meaning c.args.what number))) _ _ _ _ _ _ _ c.requires.sound s in record { does = rw (passed_on c.from_residual.result c.in_err-number.field-0.0 c.from_residual.ensures) h }

pub assign-requires-clause-meaning : goal.assign-requires-clause-meaning
assign-requires-clause-meaning g c = c.short_meaning.ensures.within _

pub returns : goal.returns
returns g c = record {
  does =
      let run = c.requires.running in let f = c.in_ok-number.ensures in let old = c.args.engine.now in let mid = c.read_index.new.self in let z = c.in_ok-number.number in let new = c.assign.new.engine in
      let s = rw c.short_index.ensures at (does_call (hears g.T.Teller.wanting g.T.Teller.heard) (hears_part g.T.Teller.wanting g.T.Teller.part) (read_index c.short_index.result) (λ z. z) (Ok z) old mid _ _ _ _ (f.follows run) (f.spends run) (f.stops run) tt (f.keeps run) f.progress f.holds (no_more (f.lower run))) in
      let m = short_meaning c.args.what z in let key = key_at old.names c.args.key in
      does_then _ _ (read_index (short_index c.args.what)) (λ number n. change (assign c.args.global (key_at old.names c.args.key) (short_meaning c.args.what number))) (lawful_index_of (short_index c.args.what)) (λ number. lawful_plain (change (assign c.args.global (key_at old.names c.args.key) (short_meaning c.args.what number))) (plain_assign c.args.global (key_at old.names c.args.key) (short_meaning c.args.what number))) z c.assign.result old mid new _ _ _ _ _ _ s
      (does_local _ _ (change (assign c.args.global key m)) (plain_assign c.args.global key m) c.assign.result mid new _ _ s.holds.owns (rw (← key_stays old.names mid.names s.keeps.grows c.args.key c.requires.key, ← c.short_meaning.ensures.is mid.names) c.assign.ensures.sets) c.assign.ensures.kept c.assign.ensures.keeps c.assign.ensures.advances c.assign.ensures.files c.assign.ensures.puts);
}
