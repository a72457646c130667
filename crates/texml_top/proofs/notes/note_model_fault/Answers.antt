use Rattle.std.proofs.Common.{rules, ◌++◌}
use Rattle.std.specs.Prelude.{codes}
use Rattle.texml_top.specs.Notes.{model_fault_name, spaced, numbered, last_word}
use Rattle.texml_base.proofs.Taking.{takes_then}
use Rattle.texml_top.proofs.Noting.{cut_first, cut_then}
use Rattle.texml_top.proofs.notes.note_model_fault.Goals as goal

pub returns-in_err-write-clause-written : goal.returns-in_err-write-clause-written
returns-in_err-write-clause-written g c =
    let f = c.args.fault.now in
    let h = cut_first _ _ (codes "model fault ") (numbered f.code (model_fault_name f.code) ++ (spaced f.child ++ last_word f.parent)) c.in_err-write.ensures.written in
    search (rules, h)

pub returns-in_err-write_numbered-clause-written : goal.returns-in_err-write_numbered-clause-written
returns-in_err-write_numbered-clause-written g c =
    let f = c.args.fault.now in let name = numbered f.code (model_fault_name f.code) in let rest = spaced f.child ++ last_word f.parent in
    let h = cut_then _ _ _ (codes "model fault ") (name ++ rest) c.in_ok-write.ensures.written (cut_first _ _ name rest (rw c.name_of_model.ensures at c.in_err-write_numbered.ensures.written)) in
    search (rules, h)

pub returns-in_err-write_word-clause-written : goal.returns-in_err-write_word-clause-written
returns-in_err-write_word-clause-written g c =
    let f = c.args.fault.now in let name = numbered f.code (model_fault_name f.code) in let child = spaced f.child in let last = last_word f.parent in
    let h = cut_then _ _ _ (codes "model fault ") (name ++ (child ++ last)) c.in_ok-write.ensures.written
    (cut_then _ _ _ name (child ++ last) (rw c.name_of_model.ensures at c.in_ok-write_numbered.ensures.written) (cut_first _ _ child last (rw c.as_slice.ensures at c.in_err-write_word.ensures.written))) in
    search (rules, h)

pub returns-clause-written : goal.returns-clause-written
returns-clause-written g c =
    let f = c.args.fault.now in let name = numbered f.code (model_fault_name f.code) in let child = spaced f.child in let last = last_word f.parent in
    takes_then _ _ _ _ (codes "model fault ") (name ++ (child ++ last)) c.in_ok-write.ensures.written
    (takes_then _ _ _ _ name (child ++ last) (rw c.name_of_model.ensures at c.in_ok-write_numbered.ensures.written)
    (takes_then _ _ _ _ child last (rw c.as_slice.ensures at c.in_ok-write_word.ensures.written) (rw c.as_slice-2.ensures at c.write_last.ensures.written)))
