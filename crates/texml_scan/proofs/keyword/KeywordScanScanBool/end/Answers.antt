use Rattle.std.proofs.Common.{◌∙◌}
use Rattle.texml_scan.specs.KeywordRest.{keyword_rest}
use Rattle.texml_scan.proofs.Letters.{keyword_ends}
use Rattle.texml_scan.proofs.keyword.KeywordScanScanBool.end.Goals as goal

pub returns-clause-said : goal.returns-clause-said
returns-clause-said c = keyword_ends c.args.self.now.at c.args.self.now.word.now c.args.self.now.inside ∙ c.ended.ensures.said (keyword_rest c.args.self.now)
