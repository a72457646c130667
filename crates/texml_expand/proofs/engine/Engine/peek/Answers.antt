use Rattle.std.proofs.Common.{rules}
use Rattle.texml_expand.proofs.Peeking.{peeked_gets, peeked_stops}
use Rattle.texml_expand.proofs.engine.Engine.peek.Goals as goal

pub returns-in_err-put_read-clause-gets : goal.returns-in_err-put_read-clause-gets
returns-in_err-put_read-clause-gets g c =
    let e = c.in_err-put_read.ensures in
    let h = peeked_stops c.args.self.now c.behind_spaces.new.self c.put_read.new.self c.in_ok-read.read _ _ c.in_ok-read.ensures.gets c.in_err-put_read.field-0.0 e.puts_back e.kept e.limit e.progress e.files in
    search (rules, h)

pub returns-clause-gets : goal.returns-clause-gets
returns-clause-gets g c =
    let e = c.in_ok-put_read.ensures in
    peeked_gets c.args.self.now c.behind_spaces.new.self c.put_read.new.self c.in_ok-read.read _ _ c.in_ok-read.ensures.gets c.in_ok-read.ensures.within e.puts_back e.kept e.keeps e.progress e.files
