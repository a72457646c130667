use Rattle.std.proofs.Common.{length}
use Rattle.texml_fixed.proofs.decimals.+halves.Given as goal

abbrev pub decreases-halves : goal.decreases-halves
decreases-halves l = length l.digits.now
