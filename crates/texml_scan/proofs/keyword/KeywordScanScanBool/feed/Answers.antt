use Rattle.std.proofs.Common.{ap, ◌∙◌}
use Rattle.texml_scan.specs.Grammar.{verdict}
use Rattle.texml_scan.proofs.Letters.{next_says}
use Rattle.texml_scan.proofs.keyword.KeywordScanScanBool.feed.Goals as goal

pub returns-in-Next-clause-said : goal.returns-in-Next-clause-said
returns-in-Next-clause-said c more = ap verdict (c.in-Next.ensures.is more) ∙ next_says c.args.self.now.at c.args.self.now.word.now c.args.look more
