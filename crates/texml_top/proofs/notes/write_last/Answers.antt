use Rattle.std.proofs.Common.{rules, [], ◌∷◌}
use Rattle.texml_top.specs.Notes.{spaced}
use Rattle.texml_base.proofs.Taking.{takes_then}
use Rattle.texml_top.proofs.Noting.{cut_first}
use Rattle.texml_top.proofs.notes.write_last.Goals as goal

pub returns-in_err-write_word-clause-written : goal.returns-in_err-write_word-clause-written
returns-in_err-write_word-clause-written g c = let h = cut_first _ _ (spaced c.args.word.now) (10 ∷ []) c.in_err-write_word.ensures.written in search (rules, h)

pub returns-clause-written : goal.returns-clause-written
returns-clause-written g c = takes_then _ _ _ _ (spaced c.args.word.now) (10 ∷ []) c.in_ok-write_word.ensures.written c.write.ensures.written
