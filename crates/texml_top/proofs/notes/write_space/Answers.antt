use Rattle.std.proofs.Common.{rules, [], ◌∷◌}
use Rattle.texml_base.proofs.Taking.{takes_then}
use Rattle.texml_top.proofs.Noting.{cut_first}
use Rattle.texml_top.proofs.notes.write_space.Goals as goal

pub returns-in_err-write-clause-written : goal.returns-in_err-write-clause-written
returns-in_err-write-clause-written g c = let h = cut_first _ _ (32 ∷ []) c.args.word.now c.in_err-write.ensures.written in search (rules, h)

pub returns-clause-written : goal.returns-clause-written
returns-clause-written g c = takes_then _ _ _ _ (32 ∷ []) c.args.word.now c.in_ok-write.ensures.written c.write-2.ensures.written
