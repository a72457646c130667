use Rattle.std.proofs.Common.{ap}
use Rattle.texml_scan.specs.Grammar.{verdict}
use Rattle.texml_scan.proofs.Letters.{keyword_wants}
use Rattle.texml_scan.proofs.keyword.KeywordScanScanBool.raw.Goals as goal

pub returns : goal.returns
returns c = ap verdict (keyword_wants c.args.self.now.at c.args.self.now.word.now c.args.self.now.inside)
