use Rattle.texml_top.specs.Table.{elements}
use Rattle.texml_top.proofs.table.elements.Goals as goal

pub returns : goal.returns
unfolding elements
returns c = λ i. record { lines = c.in_ok-lines.ensures i; attributes = c.in_ok-texts.ensures i }
