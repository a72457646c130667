use Rattle.std.proofs.Common.{rules, ◌++◌}
use Rattle.std.specs.Prelude.{codes}
use Rattle.texml_token.specs.Faults.{fault_name}
use Rattle.texml_top.specs.Notes.{placed, numbered, last_word}
use Rattle.texml_base.proofs.Taking.{takes_then}
use Rattle.texml_top.proofs.Noting.{cut_first, cut_then}
use Rattle.texml_top.proofs.notes.note_fault.Goals as goal

pub returns-in_err-write_place-clause-written : goal.returns-in_err-write_place-clause-written
returns-in_err-write_place-clause-written g c =
    let f = c.args.fault.now in
    let h = cut_first _ _ (placed f.file f.line) (codes ": fault " ++ (numbered f.code (fault_name f.code) ++ last_word f.about)) (rw c.as_slice.ensures at c.in_err-write_place.ensures.written) in
    search (rules, h)

pub returns-in_err-write-clause-written : goal.returns-in_err-write-clause-written
returns-in_err-write-clause-written g c =
    let f = c.args.fault.now in let rest = numbered f.code (fault_name f.code) ++ last_word f.about in
    let h = cut_then _ _ _ (placed f.file f.line) (codes ": fault " ++ rest) (rw c.as_slice.ensures at c.in_ok-write_place.ensures.written) (cut_first _ _ (codes ": fault ") rest c.in_err-write.ensures.written) in
    search (rules, h)

pub returns-in_err-write_numbered-clause-written : goal.returns-in_err-write_numbered-clause-written
returns-in_err-write_numbered-clause-written g c =
    let f = c.args.fault.now in let name = numbered f.code (fault_name f.code) in let last = last_word f.about in
    let h = cut_then _ _ _ (placed f.file f.line) (codes ": fault " ++ (name ++ last)) (rw c.as_slice.ensures at c.in_ok-write_place.ensures.written)
    (cut_then _ _ _ (codes ": fault ") (name ++ last) c.in_ok-write.ensures.written (cut_first _ _ name last (rw c.name_of.ensures at c.in_err-write_numbered.ensures.written))) in
    search (rules, h)

pub returns-clause-written : goal.returns-clause-written
returns-clause-written g c =
    let f = c.args.fault.now in let name = numbered f.code (fault_name f.code) in let last = last_word f.about in
    takes_then _ _ _ _ (placed f.file f.line) (codes ": fault " ++ (name ++ last)) (rw c.as_slice.ensures at c.in_ok-write_place.ensures.written)
    (takes_then _ _ _ _ (codes ": fault ") (name ++ last) c.in_ok-write.ensures.written
    (takes_then _ _ _ _ name last (rw c.name_of.ensures at c.in_ok-write_numbered.ensures.written) (rw c.as_slice-2.ensures at c.write_last.ensures.written)))
