use Rattle.texml_top.proofs.Noting.{noted_by}
use Rattle.texml_top.proofs.notes.noted.Goals as goal

pub returns-clause-notes : goal.returns-clause-notes
returns-clause-notes g c = let h = c.note_status-ended.ensures in noted_by _ _ _ _ _ _ h.written h.cause h.silent
