use Rattle.texml_token.specs.Numbers.{token_at, tokens_at}
use Rattle.texml_expand.specs.Expansion.{one_token, spelled_now}
use Rattle.texml_expand.proofs.Getting.{gets_then, gets_new, gets_stop}
use Rattle.std.proofs.Common.{rules}
use Rattle.texml_expand.proofs.engine.Engine.string.Goals as goal

pub returns-clause-gets : goal.returns-clause-gets
returns-clause-gets g c =
    let mid = c.one_token.new.self in
    let x = token_at mid.names c.in_ok-token.token in
    let d = c.in_ok-token.ensures.gets in
    let e = c.spelled.ensures in
    gets_then one_token spelled_now x _ _ _ _ _ _ _ d (gets_new tokens_at (spelled_now x) c.spelled.result mid c.spelled.new.self _ e.writes e.same e.kept e.limit d.keeps.sound e.progress e.files d.holds.owns)

pub returns-in_err-token-clause-gets : goal.returns-in_err-token-clause-gets
returns-in_err-token-clause-gets g c =
    let h = gets_stop one_token spelled_now c.in_err-token.field-0.0 c.args.self.now c.one_token.new.self _ _ c.in_err-token.ensures.gets in
    search (rules, h)
