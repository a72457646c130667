use Rattle.texml_expand.proofs.Called.{default_done}
use Rattle.std.proofs.Common.{[], ◌∷◌}
use Rattle.std.specs.Option.{unwrap_or}
use Rattle.texml_token.specs.Numbers.{tokens_at}
use Rattle.texml_expand.specs.State.{give}
use Rattle.texml_expand.specs.Arguments.{optional}
use Rattle.texml_expand.proofs.Getting.{gets_stop}
use Rattle.texml_expand.proofs.Stopping.{passed_on}
use Rattle.texml_expand.proofs.engine.Engine.first_argument.Goals as goal

pub returns-in-Ok-clause-gets : goal.returns-in-Ok-clause-gets
returns-in-Ok-clause-gets g c =
    default_done c.args.long c.args.self.now c.optional.new.self c.in_ok-list.ensures.gets.keeps.grows c.args.default.now c.in-Some.default c.in-Ok.list _ _ c.in-Some.is c.requires.default
    (rw c.in_default-2.is at c.in_ok-list.ensures.gets) c.in-Ok.ensures.cases

pub returns-in_err-list-clause-gets : goal.returns-in_err-list-clause-gets
returns-in_err-list-clause-gets g c =
    let names = c.args.self.now.names in
    let h = gets_stop (optional c.args.long) (λ found. give (unwrap_or found (tokens_at names c.in-Some.default) ∷ [])) c.in_err-list.field-0.0 c.args.self.now c.optional.new.self _ _ c.in_err-list.ensures.gets in
    rw (c.in-Some.is, passed_on c.from_residual.result c.in_err-list.field-0.0 c.from_residual.ensures) h
