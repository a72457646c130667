use Rattle.texml_expand.specs.Least.{by_least}
use Rattle.texml_expand.proofs.Fed.{feeds_quiet, feeds_spends}
use Rattle.texml_assign.specs.Parameters.{text_of, head_at}
use Rattle.texml_assign.specs.TextFeeding.{judge_text}
use Rattle.texml_assign.proofs.Doing.{does_reads}
use Rattle.texml_assign.proofs.Commands.{plain_by_least}
use Rattle.texml_assign.proofs.ParameterTexts.{text_agrees, text_first, fed_less, feeds_within}
use Rattle.texml_assign.proofs.define.parameter_text.Goals as goal

pub read_by-requires-clause-short : goal.read_by-requires-clause-short
read_by-requires-clause-short g c = λ running. text_first c.new-text.result c.new-text.ensures

pub returns-clause-does : goal.returns-clause-does
returns-clause-does g c =
    let old = c.args.engine.now in let new = c.read_by.new.self in let a = c.read_by.ensures in let run = c.requires.running in let r = c.read_by.result in
    does_reads _ _ (by_least text_of) (plain_by_least text_of) (head_at new.names) r old new _ _ _ _ a.tell
    (λ told. feeds_quiet text_of head_at (judge_text c.new-text.result) (text_agrees c.new-text.result c.new-text.ensures) _ r new.names _ (a.feeds run told))
    (feeds_spends text_of head_at (judge_text c.new-text.result) (text_agrees c.new-text.result c.new-text.ensures) new.names r _ _ old new (a.spends run))
    (a.stops run) (a.limit run) (a.keeps run) a.progress a.holds (fed_less (judge_text c.new-text.result) r _ _ _ _ (a.lower run))

pub returns-clause-within : goal.returns-clause-within
returns-clause-within g c =
    feeds_within c.new-text.result c.new-text.ensures c.read_by.result _ _ _ c.read_by.new.self (c.read_by.ensures.lower c.requires.running)
