use Rattle.std.proofs.Common.{◌++◌}
use Rattle.texml_html.proofs.Pieces.{wrote_then}
use Rattle.texml_html.proofs.writer.Writer.put_between.Goals as goal

pub returns : goal.returns
returns g c = wrote_then _ _ _ (c.args.before.now ++ c.args.piece.now) c.args.after.now (wrote_then _ _ _ c.args.before.now c.args.piece.now c.put.ensures c.put-2.ensures) c.put-3.ensures
