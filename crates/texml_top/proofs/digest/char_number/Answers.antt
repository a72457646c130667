use Rattle.std.proofs.Common.{Ok, Err, refl}
use Rattle.texml_expand.specs.State.{give}
use Rattle.texml_expand.specs.Expand.{read_index}
use Rattle.texml_expand.specs.Hearing.{hears, hears_part}
use Rattle.texml_expand.specs.declared.variables.Index.TheVariants.{Character}
use Rattle.texml_assign.proofs.Readings.{lawful_plain, plain_give}
use Rattle.texml_assign.proofs.Doing.{does_call, does_then, does_stop, does_now}
use Rattle.texml_assign.proofs.Quantities.{lawful_index_of}
use Rattle.texml_top.specs.Digest.{char_text}
use Rattle.texml_expand.proofs.Stopping.{passed_on}
use Rattle.texml_top.proofs.digest.char_number.Goals as goal

pub returns-in_err-code : goal.returns-in_err-code
returns-in_err-code g c = record {
  does =
      let run = c.requires.running in let f = c.in_err-code.ensures in let mid = c.read_index.new.self in
      let s = does_call (hears g.T.Teller.wanting g.T.Teller.heard) (hears_part g.T.Teller.wanting g.T.Teller.part) (read_index Character) (λ z. z) (Err c.in_err-code.field-0.0) c.args.engine.now mid _ _ _ _ (f.follows run) (f.spends run) (f.stops run) (f.limit run) tt f.progress f.holds tt in
      let h = does_stop _ _ (read_index Character) (λ z n. give (char_text z)) (lawful_index_of Character) (λ z. lawful_plain (give (char_text z)) (plain_give _)) _ _ _ _ _ _ _ c.requires.sound s in rw (passed_on c.from_residual.result c.in_err-code.field-0.0 c.from_residual.ensures) h;
}

pub returns : goal.returns
returns g c = record {
  does =
      let run = c.requires.running in let f = c.in_ok-code.ensures in let mid = c.read_index.new.self in let z = c.in_ok-code.code in
      let s = does_call (hears g.T.Teller.wanting g.T.Teller.heard) (hears_part g.T.Teller.wanting g.T.Teller.part) (read_index Character) (λ z. z) (Ok z) c.args.engine.now mid _ _ _ _ (f.follows run) (f.spends run) (f.stops run) tt (f.keeps run) f.progress f.holds (f.lower run) in
      rw c.char_of.ensures
      (does_then _ _ (read_index Character) (λ z n. give (char_text z)) (lawful_index_of Character) (λ z. lawful_plain (give (char_text z)) (plain_give _)) z (Ok (char_text z)) _ mid mid _ _ _ _ _ _ s
      (does_now _ _ (give (char_text z)) (plain_give _) (char_text z) mid _ _ s.keeps.sound s.holds.owns s.stops.kept (λ shelf. refl)));
}
