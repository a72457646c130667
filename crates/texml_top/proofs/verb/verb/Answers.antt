use Rattle.std.proofs.Common.{Ok, Err, refl}
use Rattle.texml_expand.specs.Contract.{outside}
use Rattle.texml_expand.specs.Hearing.{hears, hears_part}
use Rattle.texml_assign.specs.Doing.{Does}
use Rattle.texml_assign.proofs.Readings.{lawful_plain}
use Rattle.texml_assign.proofs.Doing.{does_then, does_stop, does_local}
use Rattle.texml_top.specs.Verb.{begin_verb, verb_text, end_verb, verb}
use Rattle.texml_expand.proofs.Stopping.{passed_on}
use Rattle.texml_top.proofs.Verbs.{plain_begin_verb, lawful_verb_text, plain_end_verb, behind_begin, lawful_behind_begin}
use Rattle.texml_top.proofs.verb.verb.Goals as goal

pub returns-in_err-begin_verb : goal.returns-in_err-begin_verb
returns-in_err-begin_verb g c = record {
  does =
      let b = c.in_err-begin_verb.ensures in let e = c.in_err-begin_verb.field-0.0 in let old = c.args.engine.now in let new = c.begin_verb.new.engine in
      let x = outside (g.F.Files.shelf c.args.files.now) (g.F.Files.faults c.args.files.now) (g.T.Teller.faults c.args.tell.now) (g.T.Teller.loan c.args.tell.now) in
      let h : Does (hears g.T.Teller.wanting g.T.Teller.heard) (hears_part g.T.Teller.wanting g.T.Teller.part) verb (Err e) old new x x c.args.tell.now c.args.tell.now =
      does_stop (hears g.T.Teller.wanting g.T.Teller.heard) (hears_part g.T.Teller.wanting g.T.Teller.part) (λ n. begin_verb) behind_begin (lawful_plain begin_verb plain_begin_verb) lawful_behind_begin e old new _ _ _ _ c.requires.sound
      (does_local _ _ begin_verb plain_begin_verb (Err e) old new _ _ c.requires.owns b.begins b.kept tt b.advances b.files tt) in
      rw (passed_on c.from_residual.result c.in_err-begin_verb.field-0.0 c.from_residual.ensures) h;
}

pub returns-in_err-text : goal.returns-in_err-text
returns-in_err-text g c = record {
  does =
      let b = c.in_ok-begin_verb.ensures in let old = c.args.engine.now in let mid = c.begin_verb.new.engine in let far = c.verb_text.new.engine in let e = c.in_err-text.field-0.0 in
      let x = outside (g.F.Files.shelf c.args.files.now) (g.F.Files.faults c.args.files.now) (g.T.Teller.faults c.args.tell.now) (g.T.Teller.loan c.args.tell.now) in
      let y = outside (g.F.Files.shelf c.verb_text.new.files) (g.F.Files.faults c.verb_text.new.files) (g.T.Teller.faults c.verb_text.new.tell) (g.T.Teller.loan c.verb_text.new.tell) in
      let h : Does (hears g.T.Teller.wanting g.T.Teller.heard) (hears_part g.T.Teller.wanting g.T.Teller.part) verb (Err e) old far x y c.args.tell.now c.verb_text.new.tell =
      does_then (hears g.T.Teller.wanting g.T.Teller.heard) (hears_part g.T.Teller.wanting g.T.Teller.part) (λ n. begin_verb) behind_begin (lawful_plain begin_verb plain_begin_verb) lawful_behind_begin tt (Err e) old mid far _ _ _ _ _ _
      (does_local _ _ begin_verb plain_begin_verb (Ok tt) old mid _ _ c.requires.owns b.begins b.kept b.keeps b.advances b.files b.puts)
      (does_stop _ _ verb_text (λ text n. end_verb text) lawful_verb_text (λ text. lawful_plain (end_verb text) (plain_end_verb text)) e mid far _ _ _ _ b.keeps.sound c.in_err-text.ensures.does) in
      rw (passed_on c.from_residual-in_err-text.result c.in_err-text.field-0.0 c.from_residual-in_err-text.ensures) h;
}

pub returns : goal.returns
returns g c = record {
  does =
      let b = c.in_ok-begin_verb.ensures in let old = c.args.engine.now in let mid = c.begin_verb.new.engine in let far = c.verb_text.new.engine in let new = c.end_verb.new.engine in let text = c.in_ok-text.text in let e = c.end_verb.ensures in let r = c.end_verb.result in
      does_then (hears g.T.Teller.wanting g.T.Teller.heard) (hears_part g.T.Teller.wanting g.T.Teller.part) (λ n. begin_verb) behind_begin (lawful_plain begin_verb plain_begin_verb) lawful_behind_begin tt r old mid new _ _ _ _ _ _
      (does_local _ _ begin_verb plain_begin_verb (Ok tt) old mid _ _ c.requires.owns b.begins b.kept b.keeps b.advances b.files b.puts)
      (does_then _ _ verb_text (λ text n. end_verb text) lawful_verb_text (λ text. lawful_plain (end_verb text) (plain_end_verb text)) text r mid far new _ _ _ _ _ _ c.in_ok-text.ensures.does
      (does_local _ _ (end_verb text) (plain_end_verb text) r far new _ _ c.in_ok-text.ensures.does.holds.owns e.ends e.kept e.keeps e.advances e.files e.puts));
}
