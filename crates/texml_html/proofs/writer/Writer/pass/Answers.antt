use Rattle.std.proofs.Common.{refl, ap, ◌++◌}
use Rattle.texml_html.proofs.Pieces.{gave_part}
use Rattle.texml_html.proofs.writer.Writer.pass.Goals as goal

pub returns-in-Err : goal.returns-in-Err
returns-in-Err g c = gave_part _ _ c.args.piece.now c.args.piece.now c.in-Err.ensures.written.0 c.if-self.false refl refl (ap (λ l. l ++ c.args.piece.now) c.requires)
    c.in-Err.ensures.written.1 c.in-Err.ensures.cause.later c.in-Err.ensures.cause.failed
