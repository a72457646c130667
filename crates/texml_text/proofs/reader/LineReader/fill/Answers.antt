use Rattle.std.proofs.Common.{arith}
use Rattle.texml_text.proofs.Cutting.{past_length}
use Rattle.texml_text.proofs.reader.LineReader.fill.Goals as goal

pub returns-then-has_feed-clause-little : goal.returns-then-has_feed-clause-little
returns-then-has_feed-clause-little g c = λ le. omega (arith, past_length c.args.self.now.held)
