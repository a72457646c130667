use Rattle.std.proofs.Common.{rules}
use Rattle.std.specs.Fmt.{decimal}
use Rattle.texml_top.specs.Notes.{spaced}
use Rattle.texml_base.proofs.Taking.{takes_then}
use Rattle.texml_top.proofs.Noting.{cut_first}
use Rattle.texml_top.proofs.notes.write_numbered.Goals as goal

pub returns-in_err-write_number-clause-written : goal.returns-in_err-write_number-clause-written
returns-in_err-write_number-clause-written g c = let h = cut_first _ _ (decimal c.args.code) (spaced c.args.name.now) (rw c.from.ensures at c.in_err-write_number.ensures.written) in search (rules, h)

pub returns-clause-written : goal.returns-clause-written
returns-clause-written g c = takes_then _ _ _ _ (decimal c.args.code) (spaced c.args.name.now) (rw c.from.ensures at c.in_ok-write_number.ensures.written) (rw c.as_bytes.ensures.value at c.write_word.ensures.written)
