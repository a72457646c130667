use Rattle.std.proofs.Common.{length, Ok, Err, subst}
use Rattle.std.specs.Option.{option_map}
use Rattle.texml_token.specs.Numbers.{tokens_at}
use Rattle.texml_scope.specs.Numbers.{key_at}
use Rattle.texml_expand.specs.Arguments.{read_argument}
use Rattle.texml_expand.specs.Contract.{Local}
use Rattle.texml_expand.specs.Held.{Kept, ok_at}
use Rattle.texml_expand.specs.Hearing.{hears, hears_part}
use Rattle.texml_assign.specs.NewCommand.{key_of_name}
use Rattle.texml_expand.proofs.Stopping.{passed_on}
use Rattle.texml_assign.proofs.NewCommands.{plain_argument, name_said, plain_name_said}
use Rattle.texml_assign.proofs.Readings.{lawful_plain}
use Rattle.texml_assign.proofs.Doing.{does_then, does_stop, kept_of, keeps_of, does_judge, does_reads, no_more}
use Rattle.texml_assign.proofs.new_command.command_key.Goals as goal

pub returns-in_err-list-clause-does : goal.returns-in_err-list-clause-does
returns-in_err-list-clause-does g c =
    let naming = c.args.naming in let old = c.args.engine.now in let mid = c.read_argument.new.self in let a = c.in_err-list.ensures in let e = c.in_err-list.field-0.0 in let run = c.requires.running in
    let h = does_stop (hears g.T.Teller.wanting g.T.Teller.heard) (hears_part g.T.Teller.wanting g.T.Teller.part) (λ n. read_argument) (λ v n. name_said naming v) (lawful_plain read_argument plain_argument) (λ v. lawful_plain (name_said naming v) (plain_name_said naming v)) e old mid _ _ _ _ c.requires.sound
    (does_reads _ _ read_argument plain_argument (tokens_at mid.names) (Err e) old mid _ _ _ _ a.tell (a.reads run) (a.spends run) (a.stops run) (a.limit run) tt a.progress a.holds tt) in
    rw (passed_on c.from_residual.result c.in_err-list.field-0.0 c.from_residual.ensures) h

pub returns-clause-does : goal.returns-clause-does
returns-clause-does g c =
    let naming = c.args.naming in let old = c.args.engine.now in let mid = c.read_argument.new.self in let new = c.key_of_name.new.engine in let a = c.in_ok-list.ensures in let run = c.requires.running in
    let v = tokens_at mid.names c.in_ok-list.list in let n = c.key_of_name.ensures in let r = c.key_of_name.result in
    does_then _ _ (λ n. read_argument) (λ v n. name_said naming v) (lawful_plain read_argument plain_argument) (λ v. lawful_plain (name_said naming v) (plain_name_said naming v)) v _ old mid new _ _ _ _ _ _
    (does_reads _ _ read_argument plain_argument (tokens_at mid.names) (Ok c.in_ok-list.list) old mid _ _ _ _ a.tell (a.reads run) (a.spends run) (a.stops run) tt (a.keeps run) a.progress a.holds (no_more (a.lower run)))
    (does_judge _ _ (name_said naming v) (plain_name_said naming v) (ok_at (option_map (key_at new.names)) r) mid new _ _ a.holds.owns (subst (λ o. Local (key_of_name naming o) (ok_at (option_map (key_at new.names)) r) mid new) (c.only_token.ensures.is mid.names) n.needs) (kept_of (option_map (key_at new.names)) r new.stop n.kept) (keeps_of (option_map (key_at new.names)) r (Kept mid new) n.keeps) n.is)

pub key_of_name-requires-clause-name : goal.key_of_name-requires-clause-name
key_of_name-requires-clause-name g c = c.only_token.ensures.within (length c.read_argument.new.self.names) (c.in_ok-list.ensures.within c.requires.running)
