use Rattle.std.proofs.Common.{Some, rules}
use Rattle.texml_expand.specs.Take.{take}
use Rattle.texml_expand.specs.Expand.{front_taken}
use Rattle.texml_expand.specs.Fronts.{front_at}
use Rattle.texml_expand.specs.Held.{read_at}
use Rattle.texml_expand.proofs.Fronts.{judged_shrinks}
use Rattle.texml_expand.proofs.Getting.{gets_then, gets_new, gets_stop}
use Rattle.texml_expand.specs.Front.{front_taken}
use Rattle.texml_expand.proofs.engine.Engine.front.Goals as goal

pub returns-in-Some-clause-gets : goal.returns-in-Some-clause-gets
returns-in-Some-clause-gets g c =
    let mid = c.take_front.new.self in
    let x = Some (read_at mid.names c.in-Some.read) in
    let e = c.judge.ensures in
    let d = rw c.in-Some.is at c.in_ok-take_front.ensures.gets in
    gets_then take front_taken x _ _ _ _ _ _ _ d (gets_new front_at (front_taken x) c.judge.result mid c.judge.new.self _ e.judges e.same e.kept e.limit d.keeps.sound e.progress e.files d.holds.owns)

pub returns-in-Some-clause-lower : goal.returns-in-Some-clause-lower
returns-in-Some-clause-lower g c =
    judged_shrinks _ _ _ c.take_front.new.self c.judge.new.self c.judge.result (rw c.in-Some.is at c.in_ok-take_front.ensures.lower) c.judge.ensures.count c.judge.ensures.same

pub returns-in_err-take_front-clause-gets : goal.returns-in_err-take_front-clause-gets
returns-in_err-take_front-clause-gets g c =
    let h = gets_stop take front_taken c.in_err-take_front.field-0.0 c.args.self.now c.take_front.new.self _ _ c.in_err-take_front.ensures.gets in
    search (rules, h)
