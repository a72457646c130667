use Rattle.texml_text.proofs.Taking.{rows_kept, line_given, bad_given, line_spends, line_room}
use Rattle.texml_text.proofs.reader.LineReader.line.Goals as goal

pub returns-in-Line-clause-lines : goal.returns-in-Line-clause-lines
returns-in-Line-clause-lines g c =
    let l = c.in-Line.ensures in
    line_given _ _ c.args.self.now c.fill.new.self _ l.0 c.in-Line.size c.in_ok-fill.ensures.same c.in_ok-fill.ensures.filled l.1 c.pass.ensures
    c.in_ok-fill.ensures.whole c.args.end c.in-Line.line l.2 l.3

pub returns-in-Line-clause-lower : goal.returns-in-Line-clause-lower
returns-in-Line-clause-lower g c =
    let l = c.in-Line.ensures in
    line_room _ _ c.args.self.now c.fill.new.self _ l.0 c.in-Line.size c.in_ok-fill.ensures.same c.in_ok-fill.ensures.filled l.1 c.pass.ensures
    c.in_ok-fill.ensures.whole c.in-Line.line c.args.end l.3

pub returns-in-Line-clause-spends : goal.returns-in-Line-clause-spends
returns-in-Line-clause-spends g c =
    let l = c.in-Line.ensures in
    line_spends _ _ c.args.self.now c.fill.new.self _ l.0 c.in-Line.size c.in_ok-fill.ensures.same c.in_ok-fill.ensures.filled l.1 c.pass.ensures
    c.in_ok-fill.ensures.whole

pub returns-in-NotUtf8-clause-lines : goal.returns-in-NotUtf8-clause-lines
returns-in-NotUtf8-clause-lines g c =
    let l = c.in-NotUtf8.ensures in
    bad_given _ _ c.args.self.now c.fill.new.self _ l.0 c.in-NotUtf8.size c.in_ok-fill.ensures.same c.in_ok-fill.ensures.filled l.1 c.pass-in-NotUtf8.ensures
    c.in_ok-fill.ensures.whole c.args.end l.2

pub returns-in-NotUtf8-clause-spends : goal.returns-in-NotUtf8-clause-spends
returns-in-NotUtf8-clause-spends g c =
    let l = c.in-NotUtf8.ensures in
    line_spends _ _ c.args.self.now c.fill.new.self _ l.0 c.in-NotUtf8.size c.in_ok-fill.ensures.same c.in_ok-fill.ensures.filled l.1 c.pass-in-NotUtf8.ensures
    c.in_ok-fill.ensures.whole

pub returns-in-NoMemory-clause-lines : goal.returns-in-NoMemory-clause-lines
returns-in-NoMemory-clause-lines g c = rows_kept _ _ c.args.self.now c.fill.new.self c.in_ok-fill.ensures.same c.in_ok-fill.ensures.filled
