use Rattle.texml_expand.proofs.Progress.{progress_then}
use Rattle.texml_assign.proofs.Doing.{files_then}
use Rattle.texml_top.proofs.Verbs.{keeps_behind, puts_behind}
use Rattle.texml_top.proofs.verb.begin_verb.Goals as goal

pub returns-clause-keeps : goal.returns-clause-keeps
returns-clause-keeps c = keeps_behind c.make_others.result _ _ _ c.in_ok-begin_group.ensures.keeps c.make_others.ensures.keeps

pub returns-clause-advances : goal.returns-clause-advances
returns-clause-advances c = progress_then _ _ _ c.in_ok-begin_group.ensures.advances c.make_others.ensures.advances

pub returns-clause-files : goal.returns-clause-files
returns-clause-files c = files_then c.in_ok-begin_group.ensures.files c.make_others.ensures.files

pub returns-clause-puts : goal.returns-clause-puts
returns-clause-puts c = puts_behind c.make_others.result _ _ _ c.in_ok-begin_group.ensures.puts c.make_others.ensures.puts
