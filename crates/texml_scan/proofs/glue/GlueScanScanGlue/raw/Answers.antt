use Rattle.texml_scan.proofs.Amounts.{plus_wants, minus_wants}
use Rattle.texml_scan.proofs.glue.GlueScanScanGlue.raw.Goals as goal

pub returns-in-Plus : goal.returns-in-Plus
returns-in-Plus c = plus_wants c.args.self.now c.in-Plus.is c.args.self.now.plus_inside

pub returns-in-Minus : goal.returns-in-Minus
returns-in-Minus c = minus_wants c.args.self.now c.in-Minus.is c.args.self.now.minus_inside
