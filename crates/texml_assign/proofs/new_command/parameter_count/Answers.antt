use Rattle.std.proofs.Common.{Ok, Err}
use Rattle.std.specs.Option.{option_map}
use Rattle.texml_token.specs.Numbers.{tokens_at}
use Rattle.texml_expand.specs.Arguments.{read_optional}
use Rattle.texml_expand.specs.Hearing.{hears, hears_part}
use Rattle.texml_assign.specs.NewCommand.{number_said}
use Rattle.texml_expand.proofs.Stopping.{passed_on}
use Rattle.texml_assign.proofs.NewCommands.{plain_optional, plain_number_said}
use Rattle.texml_assign.proofs.Readings.{lawful_plain}
use Rattle.texml_assign.proofs.Doing.{does_then, does_stop, does_judge, does_reads, no_more}
use Rattle.texml_assign.proofs.new_command.parameter_count.Goals as goal

pub returns-in_err-said-clause-does : goal.returns-in_err-said-clause-does
returns-in_err-said-clause-does g c =
    let old = c.args.engine.now in let mid = c.read_optional.new.self in let a = c.in_err-said.ensures in let e = c.in_err-said.field-0.0 in let run = c.requires.running in
    let h = does_stop (hears g.T.Teller.wanting g.T.Teller.heard) (hears_part g.T.Teller.wanting g.T.Teller.part) (λ n. read_optional) (λ v n. number_said v) (lawful_plain read_optional plain_optional) (λ v. lawful_plain (number_said v) (plain_number_said v)) e old mid _ _ _ _ c.requires.sound
    (does_reads _ _ read_optional plain_optional (option_map (tokens_at mid.names)) (Err e) old mid _ _ _ _ a.tell (a.reads run) (a.spends run) (a.stops run) (a.limit run) tt a.progress a.holds tt) in
    rw (passed_on c.from_residual.result c.in_err-said.field-0.0 c.from_residual.ensures) h

pub returns-clause-does : goal.returns-clause-does
returns-clause-does g c =
    let old = c.args.engine.now in let mid = c.read_optional.new.self in let new = c.number_said.new.engine in let a = c.in_ok-said.ensures in let run = c.requires.running in
    let v = option_map (tokens_at mid.names) c.in_ok-said.said in let n = c.number_said.ensures in let r = c.number_said.result in
    does_then _ _ (λ n. read_optional) (λ v n. number_said v) (lawful_plain read_optional plain_optional) (λ v. lawful_plain (number_said v) (plain_number_said v)) v _ old mid new _ _ _ _ _ _
    (does_reads _ _ read_optional plain_optional (option_map (tokens_at mid.names)) (Ok c.in_ok-said.said) old mid _ _ _ _ a.tell (a.reads run) (a.spends run) (a.stops run) tt (a.keeps run) a.progress a.holds (no_more (a.lower run)))
    (does_judge _ _ (number_said v) (plain_number_said v) r mid new _ _ a.holds.owns n.needs n.kept n.keeps n.is)
