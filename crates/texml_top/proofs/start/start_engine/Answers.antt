use Rattle.texml_top.proofs.Starting.{starts_on, no_file, no_file_blames, unread_starts, unread_blames, none_open}
use Rattle.std.proofs.Common.{◌∷◌, ap, ◌∙◌}
use Rattle.texml_input.specs.Held.{Held as HeldInput, File, fresh_file}
use Rattle.texml_top.proofs.Amounts.{is_before}
use Rattle.texml_top.proofs.start.start_engine.Goals as goal

pub returns-in-Ok-None-clause-starts : goal.returns-in-Ok-None-clause-starts
returns-in-Ok-None-clause-starts g c = no_file (g.F.Files.shelf c.args.files.now) (g.F.Files.shelf c.open_text.new.files) c.args.name.now c.args.limit c.fault.result (rw c.in-Ok-None.field-0-is at c.in-Ok-None.ensures.opens).1 (rw c.as_bytes.ensures.value at c.fault.ensures)

pub returns-in-Ok-None-clause-blames : goal.returns-in-Ok-None-clause-blames
returns-in-Ok-None-clause-blames g c = no_file_blames c.args.name.now c.fault.result _ _ (rw c.as_bytes.ensures.value at c.fault.ensures) c.in-Ok-None.ensures.cause.kept

pub returns-in-Err-clause-starts : goal.returns-in-Err-clause-starts
returns-in-Err-clause-starts g c = rw c.from.ensures (unread_starts (g.F.Files.shelf c.args.files.now) (g.F.Files.shelf c.open_text.new.files) c.args.name.now c.args.limit c.in-Err.trouble)

pub returns-in-Err-clause-blames : goal.returns-in-Err-clause-blames
returns-in-Err-clause-blames g c = rw c.from.ensures (unread_blames _ _ c.in-Err.trouble c.in-Err.ensures.cause)

pub returns-in-Ok-clause-starts : goal.returns-in-Ok-clause-starts
returns-in-Ok-clause-starts g c =
    let f = c.in-Ok-Some.file in let opens = rw c.in-Ok-Some.field-0-is at c.in-Ok-Some.ensures.opens in
    starts_on (g.F.Files.shelf c.args.files.now) (g.F.Files.shelf c.open_text.new.files) c.args.name.now f.name f.id _ c.in_ok-engine.engine c.push_file.new.self c.in_ok-engine.ensures opens.0 (rw c.input.ensures.value at c.in-Ok.ensures.ok) opens.1

pub returns-in-Err-push_file-clause-closed : goal.returns-in-Err-push_file-clause-closed
returns-in-Err-push_file-clause-closed g c = none_open (g.F.Files.shelf c.args.files.now) (g.F.Files.shelf c.open_text.new.files) (g.F.Files.shelf c.close_file.new.self) c.in-Ok-Some.file.id c.requires (rw c.in-Ok-Some.field-0-is at c.in-Ok-Some.ensures.opens).0.ids c.close_file.ensures.closed.ids

pub returns-in-Ok-clause-before : goal.returns-in-Ok-clause-before
returns-in-Ok-clause-before g c =
    let f = c.in-Ok-Some.file in
    is_before _ f.id f.name (ap (λ (i : HeldInput). i.sources) (rw c.input.ensures.value at c.in-Ok.ensures.ok) ∙ ap (λ (i : HeldInput). File (fresh_file f.id f.name) ∷ i.sources) c.in_ok-engine.ensures.input)

pub returns-in-Ok-clause-total : goal.returns-in-Ok-clause-total
returns-in-Ok-clause-total g c = (rw c.in-Ok-Some.field-0-is at c.in-Ok-Some.ensures.opens).0.total

pub returns-in-Err-push_file-clause-total : goal.returns-in-Err-push_file-clause-total
returns-in-Err-push_file-clause-total g c = c.close_file.ensures.closed.total ∙ (rw c.in-Ok-Some.field-0-is at c.in-Ok-Some.ensures.opens).0.total
