use Rattle.std.proofs.Common.{arith}
use Rattle.texml_expand.proofs.Fronts.{kept_then}
use Rattle.texml_expand.proofs.Progress.{progress_then}
use Rattle.texml_assign.proofs.Doing.{files_then, puts_then}
use Rattle.texml_top.proofs.Verbs.{others_more}
use Rattle.texml_top.proofs.verb.make_others.Goals as goal

pub returns-in_err-make_other-clause-advances : goal.returns-in_err-make_other-clause-advances
returns-in_err-make_other-clause-advances c = progress_then _ _ _ c.loop-character.invariant.advances c.in_err-make_other.ensures.advances

pub returns-in_err-make_other-clause-files : goal.returns-in_err-make_other-clause-files
returns-in_err-make_other-clause-files c = files_then c.loop-character.invariant.files c.in_err-make_other.ensures.files

pub loop-character-preserved : goal.loop-character-preserved
loop-character-preserved c =
    let i = c.loop-character.invariant in let m = c.in_ok-make_other.ensures in
    record {
      running = m.kept;
      others = λ shelf. others_more c.args.characters.now c.loop-character.character-index c.character-item.result _ _ _ _ c.loop-character-test.true c.character-item.is (i.others shelf) (m.sets shelf);
      kept = kept_then _ _ _ i.kept m.keeps;
      advances = progress_then _ _ _ i.advances m.advances;
      steps = omega (arith, i.steps, m.step);
      files = files_then i.files m.files;
      puts = puts_then i.puts m.puts;
    }
