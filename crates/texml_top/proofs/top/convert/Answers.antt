use Rattle.texml_expand.proofs.Running.{holding_itself}
use Rattle.texml_top.proofs.Outcomes.{from_any}
use Rattle.texml_top.proofs.Ending.{none_written, convert_meets, convert_page, page_late, page_document, page_files, page_limit, convert_stops, silent_page, silent_document, silent_sink, stop_files, stop_limit}
use Rattle.texml_top.proofs.Amounts.{reads_from, reads_nothing}
use Rattle.texml_top.proofs.top.convert.Goals as goal

pub returns-in-Ok-digest-clause-meets : goal.returns-in-Ok-digest-clause-meets
returns-in-Ok-digest-clause-meets g c = λ told. convert_meets _ _ _ c.in-Ok-digest.ops _ _ _ _ _ _ (c.in-Ok-digest.ensures.does.follows told) c.write_page.ensures.ends

pub returns-in-Ok-digest-clause-files_cause : goal.returns-in-Ok-digest-clause-files_cause
returns-in-Ok-digest-clause-files_cause g c = page_files _ _ _ _ _ _ c.in-Ok-digest.ensures.does.stops.reads c.write_page.ensures.ends

pub returns-in-Ok-digest-clause-limit : goal.returns-in-Ok-digest-clause-limit
returns-in-Ok-digest-clause-limit g c = page_limit _ _ _ _ _ c.write_page.ensures.ends

pub returns-in-Ok-digest-clause-late : goal.returns-in-Ok-digest-clause-late
returns-in-Ok-digest-clause-late g c = page_late _ _ _ _ c.write_page.ensures.ends

pub returns-in-Ok-digest-clause-page : goal.returns-in-Ok-digest-clause-page
returns-in-Ok-digest-clause-page g c = λ told. convert_page _ _ _ c.in-Ok-digest.ops _ _ _ _ _ _ (c.in-Ok-digest.ensures.does.follows told) c.write_page.ensures.ends

pub returns-in-Ok-digest-clause-document : goal.returns-in-Ok-digest-clause-document
returns-in-Ok-digest-clause-document g c = page_document _ _ _ _ c.write_page.ensures.ends

pub returns-in-Err-clause-meets : goal.returns-in-Err-clause-meets
returns-in-Err-clause-meets g c = λ told. from_any _ _ _ (λ all. none_written all.bytes (g.S.Sink.ink c.args.out.now))

pub returns-in-Err-clause-holds : goal.returns-in-Err-clause-holds
returns-in-Err-clause-holds g c = holding_itself _ _ c.requires.owns

pub returns-in-Err-clause-page : goal.returns-in-Err-clause-page
returns-in-Err-clause-page g c = λ told. from_any _ _ _ (λ all. tt)

pub returns-clause-meets : goal.returns-clause-meets
returns-clause-meets g c = λ told.
    let d = c.in-Err-digest.ensures.does in
    rw c.from.ensures (convert_stops _ _ c.in-Err-digest.stop _ _ _ _ (g.S.Sink.ink c.args.out.now) d.stops.tells (d.follows told))

pub returns-clause-files_cause : goal.returns-clause-files_cause
returns-clause-files_cause g c = rw c.from.ensures (stop_files c.in-Err-digest.stop _ _ c.in-Err-digest.ensures.does.stops.reads)

pub returns-clause-out_cause : goal.returns-clause-out_cause
returns-clause-out_cause g c = rw c.from.ensures (silent_sink c.in-Err-digest.stop _ c.in-Err-digest.ensures.does.stops.tells)

pub returns-clause-limit : goal.returns-clause-limit
returns-clause-limit g c = let d = c.in-Err-digest.ensures.does in rw c.from.ensures (stop_limit c.in-Err-digest.stop _ _ d.limit d.advances.limit)

pub returns-clause-page : goal.returns-clause-page
returns-clause-page g c = λ told. rw c.from.ensures (from_any _ _ _ (λ all. silent_page c.in-Err-digest.stop all c.in-Err-digest.ensures.does.stops.tells))

pub returns-clause-document : goal.returns-clause-document
returns-clause-document g c = rw c.from.ensures (silent_document c.in-Err-digest.stop _ _ c.in-Err-digest.ensures.does.stops.tells)

pub returns-in-Err-clause-reads : goal.returns-in-Err-clause-reads
returns-in-Err-clause-reads g c = λ told little. reads_nothing _ _ _ little

pub returns-in-Ok-digest-clause-reads : goal.returns-in-Ok-digest-clause-reads
returns-in-Ok-digest-clause-reads g c = λ told little. reads_from _ _ _ _ _ _ (c.in-Ok-digest.ensures.does.spends told little)

pub returns-clause-reads : goal.returns-clause-reads
returns-clause-reads g c = λ told little. reads_from _ _ _ _ _ _ (c.in-Err-digest.ensures.does.spends told little)
