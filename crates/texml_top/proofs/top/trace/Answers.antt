use Rattle.texml_watch.specs.Lending.{lent_by}
use Rattle.texml_top.proofs.Ending.{expand_done, expand_stops, expand_lines, stop_files, stop_sink, stop_limit}
use Rattle.texml_top.proofs.Amounts.{reads_from}
use Rattle.texml_top.proofs.top.trace.Goals as goal

pub returns-in-Ok-clause-loan : goal.returns-in-Ok-clause-loan
returns-in-Ok-clause-loan g c = c.in-Ok.ensures.does.stops.loan

pub returns-in-Ok-clause-meets : goal.returns-in-Ok-clause-meets
returns-in-Ok-clause-meets g c = λ told. expand_done (lent_by g.S.Sink.ink g.S.Sink.faults) _ _ _ _ _ (c.in-Ok.ensures.does.follows told)

pub returns-in-Ok-clause-whole : goal.returns-in-Ok-clause-whole
returns-in-Ok-clause-whole g c = λ told. expand_lines (lent_by g.S.Sink.ink g.S.Sink.faults) _ _ _ _ _ (c.in-Ok.ensures.does.follows told)

pub returns-clause-loan : goal.returns-clause-loan
returns-clause-loan g c = c.in-Err.ensures.does.stops.loan

pub returns-clause-meets : goal.returns-clause-meets
returns-clause-meets g c = λ told. rw c.from.ensures (expand_stops (lent_by g.S.Sink.ink g.S.Sink.faults) c.in-Err.stop _ _ _ _ (c.in-Err.ensures.does.follows told))

pub returns-clause-files_cause : goal.returns-clause-files_cause
returns-clause-files_cause g c = rw c.from.ensures (stop_files c.in-Err.stop _ _ c.in-Err.ensures.does.stops.reads)

pub returns-clause-out_cause : goal.returns-clause-out_cause
returns-clause-out_cause g c = rw c.from.ensures (stop_sink c.in-Err.stop _ _ c.in-Err.ensures.does.stops.tells)

pub returns-clause-limit : goal.returns-clause-limit
returns-clause-limit g c = let d = c.in-Err.ensures.does in rw c.from.ensures (stop_limit c.in-Err.stop _ _ d.limit d.advances.limit)

pub returns-clause-whole : goal.returns-clause-whole
returns-clause-whole g c = λ told. expand_lines (lent_by g.S.Sink.ink g.S.Sink.faults) _ _ _ _ _ (c.in-Err.ensures.does.follows told)

pub returns-in-Ok-clause-reads : goal.returns-in-Ok-clause-reads
returns-in-Ok-clause-reads g c = λ told little. reads_from _ _ _ _ _ _ (c.in-Ok.ensures.does.spends told little)

pub returns-clause-reads : goal.returns-clause-reads
returns-clause-reads g c = λ told little. reads_from _ _ _ _ _ _ (c.in-Err.ensures.does.spends told little)
