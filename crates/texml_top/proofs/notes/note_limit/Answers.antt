use Rattle.std.proofs.Common.{rules, ◌++◌}
use Rattle.std.specs.Prelude.{codes}
use Rattle.std.specs.Fmt.{decimal}
use Rattle.texml_base.proofs.Taking.{takes_then}
use Rattle.texml_top.proofs.Noting.{cut_first, cut_then}
use Rattle.texml_top.proofs.notes.note_limit.Goals as goal

pub returns-in_err-write-clause-written : goal.returns-in_err-write-clause-written
returns-in_err-write-clause-written g c = let h = cut_first _ _ (codes "limit ") (decimal c.args.limit ++ codes " reached\n") c.in_err-write.ensures.written in search (rules, h)

pub returns-in_err-write_number-clause-written : goal.returns-in_err-write_number-clause-written
returns-in_err-write_number-clause-written g c =
    let n = decimal c.args.limit in let end = codes " reached\n" in
    let h = cut_then _ _ _ (codes "limit ") (n ++ end) c.in_ok-write.ensures.written (cut_first _ _ n end c.in_err-write_number.ensures.written) in
    search (rules, h)

pub returns-clause-written : goal.returns-clause-written
returns-clause-written g c =
    let n = decimal c.args.limit in let end = codes " reached\n" in
    takes_then _ _ _ _ (codes "limit ") (n ++ end) c.in_ok-write.ensures.written (takes_then _ _ _ _ n end c.in_ok-write_number.ensures.written c.write-2.ensures.written)
