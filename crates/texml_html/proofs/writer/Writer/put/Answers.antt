use Rattle.texml_html.specs.Writing.{lent_by}
use Rattle.texml_html.proofs.Pieces.{gave_both}
use Rattle.texml_html.proofs.writer.Writer.put.Goals as goal

pub returns-in-Err : goal.returns-in-Err
returns-in-Err g c = gave_both (lent_by g.S.Sink.ink g.S.Sink.faults c.args.self.now) _ _ (lent_by g.S.Sink.ink g.S.Sink.faults c.pass.new.self) c.args.piece.now
    (λ i. record { loan = c.args.self.now.sink.ghost_name; ink = g.S.Sink.ink c.args.self.now.sink.now; held = (c.in-Err.ensures.err i).items; faults = g.S.Sink.faults c.args.self.now.sink.now; failed = c.args.self.now.failed })
    c.flush.ensures.written c.pass.ensures
