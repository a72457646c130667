use Rattle.std.proofs.Common.{rules}
use Rattle.texml_expand.specs.State.{give}
use Rattle.texml_expand.specs.Calls.{Freezes}
use Rattle.texml_expand.specs.Expansion.{one_token}
use Rattle.texml_expand.proofs.Getting.{gets_stop}
use Rattle.texml_expand.proofs.engine.Engine.no_expand.Goals as goal

pub returns-in_err-token-clause-gets : goal.returns-in_err-token-clause-gets
returns-in_err-token-clause-gets g c =
    let h = gets_stop one_token (λ t. give (Freezes t)) c.in_err-token.field-0.0 c.args.self.now c.one_token.new.self _ _ c.in_err-token.ensures.gets in
    search (rules, h)
