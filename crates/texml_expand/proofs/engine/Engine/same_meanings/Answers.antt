use Rattle.std.proofs.Common.{rules}
use Rattle.texml_expand.proofs.Comparing.{second_stops, are_compared, comparing_out}
use Rattle.texml_expand.specs.State.{◌>>=◌}
use Rattle.texml_expand.specs.Expansion.{one_token}
use Rattle.texml_expand.specs.Conditionals.{same_meaning}
use Rattle.texml_expand.proofs.Getting.{gets_stop}
use Rattle.texml_expand.proofs.engine.Engine.same_meanings.Goals as goal

pub returns-in_err-second-clause-gets : goal.returns-in_err-second-clause-gets
returns-in_err-second-clause-gets g c =
    let h = second_stops c.args.self.now c.one_token.new.self c.one_token-2.new.self _ _ _ c.in_ok-first.first c.in_ok-first.ensures.within c.in_ok-first.ensures.gets c.in_err-second.field-0.0 c.in_err-second.ensures.gets in
    search (rules, h)

pub returns-in-Ok-clause-gets : goal.returns-in-Ok-clause-gets
returns-in-Ok-clause-gets g c =
    are_compared c.args.self.now c.one_token.new.self c.one_token-2.new.self _ _ _ c.in_ok-first.first c.in_ok-first.ensures.within c.in_ok-first.ensures.gets c.in_ok-second.second c.in_ok-second.ensures.gets c.in-Ok.same c.in-Ok.ensures

pub returns-in-Err-clause-gets : goal.returns-in-Err-clause-gets
returns-in-Err-clause-gets g c =
    let h = comparing_out c.args.self.now c.one_token.new.self c.one_token-2.new.self _ _ _ c.in_ok-first.first c.in_ok-first.ensures.within c.in_ok-first.ensures.gets c.in_ok-second.second c.in_ok-second.ensures.gets c.no_memory.result c.no_memory.new.self
    c.no_memory.ensures.is c.no_memory.ensures.kept in
    search (rules, h)

pub returns-in_err-first-clause-gets : goal.returns-in_err-first-clause-gets
returns-in_err-first-clause-gets g c =
    let h = gets_stop one_token (λ a. one_token >>= same_meaning a) c.in_err-first.field-0.0 c.args.self.now c.one_token.new.self _ _ c.in_err-first.ensures.gets in
    search (rules, h)
