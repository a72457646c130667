use Rattle.std.proofs.Common.{rules, ◌++◌}
use Rattle.std.specs.Prelude.{codes}
use Rattle.std.specs.Fmt.{decimal}
use Rattle.texml_base.proofs.Taking.{takes_then}
use Rattle.texml_top.proofs.Noting.{cut_first, cut_then}
use Rattle.texml_top.proofs.notes.write_place.Goals as goal

pub returns-in_err-write-clause-written : goal.returns-in_err-write-clause-written
returns-in_err-write-clause-written g c = let h = cut_first _ _ c.args.file.now (codes ":" ++ decimal c.args.line) c.in_err-write.ensures.written in search (rules, h)

pub returns-in_err-write-2-clause-written : goal.returns-in_err-write-2-clause-written
returns-in_err-write-2-clause-written g c =
    let h = cut_then _ _ _ c.args.file.now (codes ":" ++ decimal c.args.line) c.in_ok-write.ensures.written (cut_first _ _ (codes ":") (decimal c.args.line) c.in_err-write-2.ensures.written) in
    search (rules, h)

pub returns-clause-written : goal.returns-clause-written
returns-clause-written g c =
    takes_then _ _ _ _ c.args.file.now (codes ":" ++ decimal c.args.line) c.in_ok-write.ensures.written
    (takes_then _ _ _ _ (codes ":") (decimal c.args.line) c.in_ok-write-2.ensures.written c.write_number.ensures.written)
