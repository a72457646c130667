use Rattle.texml_expand.proofs.Least.{few_next}
use Rattle.texml_expand.proofs.Spacing.{behind_is}
use Rattle.texml_expand.proofs.Seeks.{seek_is}
use Rattle.texml_expand.proofs.laws.readings_need_no_bound.Goals as goal

pub returns : goal.returns
returns c = record { spaces = behind_is; seeking = seek_is; few = few_next }
