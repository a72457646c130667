use Rattle.std.proofs.Common.{map, string_bytes}
use Rattle.texml.proofs.Wording.{told_two, fails, all_read}
use Rattle.texml.proofs.words.read_words.Goals as goal

pub returns-in-Ok-None : goal.returns-in-Ok-None
returns-in-Ok-None g c = told_two (g.L.CommandLine.told c.args.line.now) (all_read (map string_bytes c.loop-at.texts.items) c.loop-at.at c.in-Ok-None.field-0 (let is = c.in-Ok-None.is in cc)) c.loop-at.invariant.read c.in-Ok-None.ensures

pub returns-in-Err : goal.returns-in-Err
returns-in-Err g c = told_two (g.L.CommandLine.told c.args.line.now) (fails (map string_bytes c.loop-at.texts.items) c.loop-at.at c.in-Err.fault) c.loop-at.invariant.read c.in-Err.ensures
