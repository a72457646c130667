use Rattle.texml_assign.specs.NewCommand.{starred}
use Rattle.texml_assign.proofs.Doing.{does_asks}
use Rattle.texml_assign.proofs.NewCommands.{plain_starred}
use Rattle.texml_expand.specs.Hearing.{hears, hears_part}
use Rattle.texml_assign.proofs.new_command.starred.Goals as goal

pub returns : goal.returns
returns g c = record {
  does =
      let a = c.read_sign.ensures in let run = c.requires.running in
      does_asks (hears g.T.Teller.wanting g.T.Teller.heard) (hears_part g.T.Teller.wanting g.T.Teller.part) starred plain_starred c.read_sign.result c.args.engine.now c.read_sign.new.self _ _ _ _ a.tell (a.reads run) (a.spends run) (a.stops run) (a.limit run) (a.keeps run) a.progress a.holds (a.lower run);
}
