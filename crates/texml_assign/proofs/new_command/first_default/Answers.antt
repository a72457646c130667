use Rattle.std.proofs.Common.{Ok, Err}
use Rattle.std.specs.Option.{option_map}
use Rattle.texml_token.specs.Numbers.{tokens_at}
use Rattle.texml_expand.specs.Arguments.{read_optional}
use Rattle.texml_expand.specs.Held.{Kept, ok_at}
use Rattle.texml_expand.specs.Hearing.{hears, hears_part}
use Rattle.texml_assign.specs.NewCommand.{fitting}
use Rattle.texml_expand.proofs.Stopping.{passed_on}
use Rattle.texml_assign.proofs.NewCommands.{plain_optional, plain_fitting}
use Rattle.texml_assign.proofs.Readings.{lawful_plain}
use Rattle.texml_assign.proofs.Doing.{does_then, does_stop, kept_of, keeps_of, does_judge, does_reads, no_more}
use Rattle.texml_assign.proofs.new_command.first_default.Goals as goal

pub returns-in_err-default-clause-does : goal.returns-in_err-default-clause-does
returns-in_err-default-clause-does g c =
    let slots = c.args.slots in let old = c.args.engine.now in let mid = c.read_optional.new.self in let a = c.in_err-default.ensures in let e = c.in_err-default.field-0.0 in let run = c.requires.running in
    let h = does_stop (hears g.T.Teller.wanting g.T.Teller.heard) (hears_part g.T.Teller.wanting g.T.Teller.part) (λ n. read_optional) (λ v n. fitting slots v) (lawful_plain read_optional plain_optional) (λ v. lawful_plain (fitting slots v) (plain_fitting slots v)) e old mid _ _ _ _ c.requires.sound
    (does_reads _ _ read_optional plain_optional (option_map (tokens_at mid.names)) (Err e) old mid _ _ _ _ a.tell (a.reads run) (a.spends run) (a.stops run) (a.limit run) tt a.progress a.holds tt) in
    rw (passed_on c.from_residual.result c.in_err-default.field-0.0 c.from_residual.ensures) h

pub returns-clause-does : goal.returns-clause-does
returns-clause-does g c =
    let slots = c.args.slots in let old = c.args.engine.now in let mid = c.read_optional.new.self in let new = c.fitting.new.engine in let a = c.in_ok-default.ensures in let run = c.requires.running in
    let v = option_map (tokens_at mid.names) c.in_ok-default.default in let n = c.fitting.ensures in let r = c.fitting.result in
    does_then _ _ (λ n. read_optional) (λ v n. fitting slots v) (lawful_plain read_optional plain_optional) (λ v. lawful_plain (fitting slots v) (plain_fitting slots v)) v _ old mid new _ _ _ _ _ _
    (does_reads _ _ read_optional plain_optional (option_map (tokens_at mid.names)) (Ok c.in_ok-default.default) old mid _ _ _ _ a.tell (a.reads run) (a.spends run) (a.stops run) tt (a.keeps run) a.progress a.holds (no_more (a.lower run)))
    (does_judge _ _ (fitting slots v) (plain_fitting slots v) (ok_at (option_map (tokens_at new.names)) r) mid new _ _ a.holds.owns n.needs (kept_of (option_map (tokens_at new.names)) r new.stop n.kept) (keeps_of (option_map (tokens_at new.names)) r (Kept mid new) n.keeps) n.is)
