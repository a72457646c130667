use Rattle.std.proofs.Common.{refl, sym, ◌∙◌, [], append-nil}
use Rattle.texml_html.proofs.Pieces.{gave_part}
use Rattle.texml_html.proofs.writer.Writer.flush.Goals as goal

pub returns-in-Err-clause-written : goal.returns-in-Err-clause-written
returns-in-Err-clause-written g c = gave_part _ _ [] c.as_slice.result.now c.in-Err.ensures.written.0 c.if-self.false refl refl (append-nil c.args.self.now.held.items ∙ sym c.as_slice.ensures.value)
    c.in-Err.ensures.written.1 c.in-Err.ensures.cause.later c.in-Err.ensures.cause.failed
