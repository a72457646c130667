use Rattle.std.proofs.Common.{IsTrue, map, string_bytes, refl, sym, subst}
use Rattle.texml_top.specs.Request.{asked, read_as}
use Rattle.texml_top.specs.Run.{FilesBlamed}
use Rattle.texml_top.specs.declared.status.Status.TheVariants.{Usage}
use Rattle.texml_top.proofs.Outcomes.{of_words, of_any, with_weaker}
use Rattle.texml_top.proofs.Ending.{refused_ends, no_lines_by, ends_exactly, usage_page, usage_document, usage_lines, asked_page, asked_document, asked_lines, start_meets, start_sink, start_page, start_document, started}
use Rattle.texml_top.proofs.Amounts.{reads_not, reads_started}
use Rattle.texml_top.proofs.top.run.Goals as goal

-- words that are no command line
pub returns-in-Err-clause-outcome : goal.returns-in-Err-clause-outcome
returns-in-Err-clause-outcome g c = λ told read wrote memory. rw c.noted.ensures.is
    (of_words (map string_bytes c.args.words.now) (g.F.Files.shelf c.args.files.now).contents c.in-Err.which _ c.in-Err.ensures (refused_ends (Usage c.in-Err.which) (g.S.Sink.ink c.args.out.now)))

pub returns-in-Err-clause-meets : goal.returns-in-Err-clause-meets
returns-in-Err-clause-meets g c = λ told. rw c.noted.ensures.is
    (of_words (map string_bytes c.args.words.now) (g.F.Files.shelf c.args.files.now).contents c.in-Err.which _ c.in-Err.ensures (refused_ends (Usage c.in-Err.which) (g.S.Sink.ink c.args.out.now)))

pub returns-in-Err-clause-page : goal.returns-in-Err-clause-page
returns-in-Err-clause-page g c = λ told.
    let words = map string_bytes c.args.words.now in
    of_any words (g.F.Files.shelf c.args.files.now).contents _ (λ all. usage_page (asked words) c.in-Err.which _ all c.in-Err.ensures)

pub returns-in-Err-clause-document : goal.returns-in-Err-clause-document
returns-in-Err-clause-document g c = usage_document (asked (map string_bytes c.args.words.now)) c.in-Err.which _ _ _ c.in-Err.ensures

pub returns-in-Err-clause-lines : goal.returns-in-Err-clause-lines
returns-in-Err-clause-lines g c = λ told wrote.
    let words = map string_bytes c.args.words.now in
    of_any words (g.F.Files.shelf c.args.files.now).contents _ (λ all. usage_lines (asked words) c.in-Err.which all _ _ c.in-Err.ensures)

-- a file that can't be read
pub returns-in-Err-start_engine-clause-outcome : goal.returns-in-Err-start_engine-clause-outcome
returns-in-Err-start_engine-clause-outcome g c = λ told read wrote memory.
    let words = map string_bytes c.args.words.now in
    let shelf = g.F.Files.shelf c.args.files.now in
    let ink = g.S.Sink.ink c.args.out.now in
    let request = read_as c.in-Ok.request in
    let status = c.in-Err-start_engine.status in
    let now = g.F.Files.shelf c.start_engine.new.files in
    let starts = c.in-Err-start_engine.ensures.starts in
    let short = rw c.noted-in-Err-start_engine.ensures.is at memory in
    rw c.noted-in-Err-start_engine.ensures.is
    (with_weaker _ (λ all may. ends_exactly status all ink ink _ _ _ _ c.in-Err-start_engine.ensures.blames (start_sink shelf now request.file request.limit status (g.S.Sink.faults c.args.out.now) starts) read wrote short may)
    (start_meets words shelf now request c.in-Ok.ensures status ink starts told))

pub returns-in-Err-start_engine-clause-meets : goal.returns-in-Err-start_engine-clause-meets
returns-in-Err-start_engine-clause-meets g c = λ told. rw c.noted-in-Err-start_engine.ensures.is
    (start_meets (map string_bytes c.args.words.now) (g.F.Files.shelf c.args.files.now) (g.F.Files.shelf c.start_engine.new.files) (read_as c.in-Ok.request) c.in-Ok.ensures _ (g.S.Sink.ink c.args.out.now) c.in-Err-start_engine.ensures.starts told)

pub returns-in-Err-start_engine-clause-page : goal.returns-in-Err-start_engine-clause-page
returns-in-Err-start_engine-clause-page g c = λ told.
    let words = map string_bytes c.args.words.now in
    let shelf = g.F.Files.shelf c.args.files.now in
    let request = read_as c.in-Ok.request in
    rw c.noted-in-Err-start_engine.ensures.is (of_any words shelf.contents _
    (λ all. asked_page (asked words) request _ all c.in-Ok.ensures (start_page words shelf (g.F.Files.shelf c.start_engine.new.files) request c.in-Ok.ensures request.command _ all c.in-Err-start_engine.ensures.starts)))

pub returns-in-Err-start_engine-clause-document : goal.returns-in-Err-start_engine-clause-document
returns-in-Err-start_engine-clause-document g c =
    let request = read_as c.in-Ok.request in
    rw c.noted-in-Err-start_engine.ensures.is (asked_document (asked (map string_bytes c.args.words.now)) request _ _ _ c.in-Ok.ensures
    (start_document (g.F.Files.shelf c.args.files.now) (g.F.Files.shelf c.start_engine.new.files) request.file request.limit request.command _ _ c.in-Err-start_engine.ensures.starts))

pub returns-in-Err-start_engine-clause-lines : goal.returns-in-Err-start_engine-clause-lines
returns-in-Err-start_engine-clause-lines g c = λ told wrote.
    let words = map string_bytes c.args.words.now in
    let request = read_as c.in-Ok.request in
    of_any words (g.F.Files.shelf c.args.files.now).contents _
    (λ all. asked_lines (asked words) request all _ _ c.in-Ok.ensures (no_lines_by request.command all (g.S.Sink.ink c.args.out.now)))

-- a command that was performed, behind which the files are closed
pub returns-clause-outcome : goal.returns-clause-outcome
returns-clause-outcome g c = λ told read wrote memory.
    let files = subst (λ n. FilesBlamed c.perform-status.result n (g.F.Files.faults c.perform-status.new.files)) c.in-Ok-start_engine.ensures.blames c.perform-status.ensures.files_cause in
    let blamed = subst (FilesBlamed c.perform-status.result (g.F.Files.faults c.args.files.now)) (sym c.close_all.ensures.faults) files in
    let short = rw c.noted-2.ensures.is at memory in
    rw c.noted-2.ensures.is (with_weaker _ (λ all may. ends_exactly c.perform-status.result all _ _ _ _ _ _ blamed c.perform-status.ensures.out_cause read wrote short may)
    (started (map string_bytes c.args.words.now) (g.F.Files.shelf c.args.files.now).contents (read_as c.in-Ok.request) (g.F.Files.shelf c.start_engine.new.files) c.in-Ok-start_engine.engine _ c.in-Ok.ensures
    (c.in-Ok-start_engine.ensures.starts told) (c.perform-status.ensures.meets (subst IsTrue (sym c.in-Ok-start_engine.ensures.same.tells) told))))

pub returns-clause-meets : goal.returns-clause-meets
returns-clause-meets g c = λ told. rw c.noted-2.ensures.is
    (started (map string_bytes c.args.words.now) (g.F.Files.shelf c.args.files.now).contents (read_as c.in-Ok.request) (g.F.Files.shelf c.start_engine.new.files) c.in-Ok-start_engine.engine _ c.in-Ok.ensures
    (c.in-Ok-start_engine.ensures.starts told) (c.perform-status.ensures.meets (subst IsTrue (sym c.in-Ok-start_engine.ensures.same.tells) told)))

pub returns-clause-files_cause : goal.returns-clause-files_cause
returns-clause-files_cause g c =
    let files = subst (λ n. FilesBlamed c.perform-status.result n (g.F.Files.faults c.perform-status.new.files)) c.in-Ok-start_engine.ensures.blames c.perform-status.ensures.files_cause in
    rw c.noted-2.ensures.is (subst (FilesBlamed c.perform-status.result (g.F.Files.faults c.args.files.now)) (sym c.close_all.ensures.faults) files)

pub returns-clause-page : goal.returns-clause-page
returns-clause-page g c = λ told.
    let words = map string_bytes c.args.words.now in
    let request = read_as c.in-Ok.request in
    rw c.noted-2.ensures.is (with_weaker _ (λ all h. asked_page (asked words) request _ all c.in-Ok.ensures h)
    (started words (g.F.Files.shelf c.args.files.now).contents request (g.F.Files.shelf c.start_engine.new.files) c.in-Ok-start_engine.engine _ c.in-Ok.ensures (c.in-Ok-start_engine.ensures.starts told)
    (c.perform-status.ensures.page (subst IsTrue (sym c.in-Ok-start_engine.ensures.same.tells) told))))

pub returns-clause-document : goal.returns-clause-document
returns-clause-document g c = rw c.noted-2.ensures.is (asked_document (asked (map string_bytes c.args.words.now)) (read_as c.in-Ok.request) _ _ _ c.in-Ok.ensures c.perform-status.ensures.document)

pub returns-clause-lines : goal.returns-clause-lines
returns-clause-lines g c = λ told wrote.
    let words = map string_bytes c.args.words.now in
    let request = read_as c.in-Ok.request in
    with_weaker _ (λ all h. asked_lines (asked words) request all _ _ c.in-Ok.ensures h)
    (started words (g.F.Files.shelf c.args.files.now).contents request (g.F.Files.shelf c.start_engine.new.files) c.in-Ok-start_engine.engine _ c.in-Ok.ensures (c.in-Ok-start_engine.ensures.starts told)
    (c.perform-status.ensures.lines (subst IsTrue (sym c.in-Ok-start_engine.ensures.same.tells) told) wrote))

pub close_all-requires : goal.close_all-requires
close_all-requires g c = rw c.input.ensures.value c.perform-status.ensures.holds.owns.held

pub returns-clause-closed : goal.returns-clause-closed
returns-clause-closed g c = c.close_all.ensures.holds.exact (rw c.input.ensures.value c.perform-status.ensures.holds.owns.all)

-- how much is read
pub returns-in-Err-clause-reads : goal.returns-in-Err-clause-reads
returns-in-Err-clause-reads g c = λ told. reads_not (asked (map string_bytes c.args.words.now)) (g.F.Files.shelf c.args.files.now).contents (g.F.Files.shelf c.args.files.now) (g.F.Files.shelf c.args.files.now) refl

pub returns-in-Err-start_engine-clause-reads : goal.returns-in-Err-start_engine-clause-reads
returns-in-Err-start_engine-clause-reads g c = λ told.
    reads_not (asked (map string_bytes c.args.words.now)) (g.F.Files.shelf c.args.files.now).contents (g.F.Files.shelf c.args.files.now) (g.F.Files.shelf c.start_engine.new.files) c.in-Err-start_engine.ensures.total

pub returns-clause-reads : goal.returns-clause-reads
returns-clause-reads g c = λ told.
    let start = c.in-Ok-start_engine.ensures in
    reads_started (asked (map string_bytes c.args.words.now)) (g.F.Files.shelf c.args.files.now).contents (read_as c.in-Ok.request) (g.F.Files.shelf c.args.files.now) (g.F.Files.shelf c.start_engine.new.files) (g.F.Files.shelf c.perform-status.new.files)
    (g.F.Files.shelf c.close_all.new.files) c.in-Ok-start_engine.engine c.in-Ok.ensures (start.starts told) start.before start.total (c.perform-status.ensures.reads (subst IsTrue (sym start.same.tells) told) start.before.little) c.close_all.ensures.total
