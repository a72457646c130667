use Rattle.std.proofs.Common.{sym}
use Rattle.texml_text.proofs.Cutting.{cuts_feed}
use Rattle.texml_text.proofs.reader.cut.Goals as goal

pub returns-in-Some : goal.returns-in-Some
returns-in-Some c = cuts_feed c.args.bytes.now c.in-Some.end (sym c.in-Some.ensures) c.without_return.result.now c.without_return.ensures
