use Rattle.std.proofs.Common.{◌≤◌, take, length-take, arith}
use Rattle.texml_text.specs.Reader.{past_line}
use Rattle.texml_text.proofs.Cutting.{little_kept, little_more, past_length}
use Rattle.texml_text.proofs.reader.read_line.Goals as goal

pub returns-in_err-reserve-clause-little : goal.returns-in_err-reserve-clause-little
returns-in_err-reserve-clause-little g c = little_kept _ _ c.in_err-reserve.ensures.items c.loop-files.invariant.no_feed

pub returns-in-Err-Failed-clause-little : goal.returns-in-Err-Failed-clause-little
returns-in-Err-Failed-clause-little g c = little_kept _ _ c.in_ok-reserve.ensures.items c.loop-files.invariant.no_feed

pub returns-then-count-eq0-clause-little : goal.returns-then-count-eq0-clause-little
returns-then-count-eq0-clause-little g c =
    let short : past_line (take c.in-Ok.count c.read_file.new.into) ≤ 4096 =
    omega (arith, past_length (take c.in-Ok.count c.read_file.new.into), length-take c.in-Ok.count c.read_file.new.into) in
    little_more _ _ _ _ c.in_ok-reserve.ensures.items c.loop-files.invariant.no_feed c.append.ensures short
