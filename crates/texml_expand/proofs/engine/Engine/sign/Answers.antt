use Rattle.std.proofs.Common.{Some, arith, rules}
use Rattle.texml_expand.specs.Arguments.{behind_spaces, sign_or_back}
use Rattle.texml_expand.specs.Held.{read_at}
use Rattle.texml_expand.proofs.Getting.{gets_then, gets_local, gets_stop}
use Rattle.texml_expand.proofs.Running.{ok_puts}
use Rattle.texml_expand.proofs.engine.Engine.sign.Goals as goal

pub returns-in-Some-clause-gets : goal.returns-in-Some-clause-gets
returns-in-Some-clause-gets g c =
    let mid = c.behind_spaces.new.self in
    let x = Some (read_at mid.names c.in-Some.read) in
    let d = rw c.in-Some.is at c.in_ok-behind_spaces.ensures.gets in
    let e = c.sign_or_back.ensures in
    gets_then behind_spaces (sign_or_back c.args.code) x c.sign_or_back.result _ mid c.sign_or_back.new.self _ _ _ d
    (gets_local (sign_or_back c.args.code x) c.sign_or_back.result mid c.sign_or_back.new.self _ e.reads e.kept e.limit e.keeps e.progress e.files d.holds.owns)

pub returns-in-Some-clause-lower : goal.returns-in-Some-clause-lower
returns-in-Some-clause-lower g c =
    ok_puts c.sign_or_back.result 1 1 0 _ _ _ c.behind_spaces.new.self c.sign_or_back.new.self (rw c.in-Some.is at c.in_ok-behind_spaces.ensures.lower) c.sign_or_back.ensures.lower (omega arith)

pub returns-in_err-behind_spaces-clause-gets : goal.returns-in_err-behind_spaces-clause-gets
returns-in_err-behind_spaces-clause-gets g c =
    let h = gets_stop behind_spaces (sign_or_back c.args.code) c.in_err-behind_spaces.field-0.0 c.args.self.now c.behind_spaces.new.self _ _ c.in_err-behind_spaces.ensures.gets in
    search (rules, h)
