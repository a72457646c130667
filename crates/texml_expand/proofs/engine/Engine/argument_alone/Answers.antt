use Rattle.std.proofs.Common.{rules}
use Rattle.texml_token.specs.Numbers.{tokens_at}
use Rattle.texml_expand.specs.State.{change}
use Rattle.texml_expand.specs.Arguments.{read_argument}
use Rattle.texml_expand.specs.Include.{alone}
use Rattle.texml_expand.proofs.Getting.{gets_then, gets_stop, gets_local}
use Rattle.texml_expand.proofs.engine.Engine.argument_alone.Goals as goal

pub returns-in_err-list-clause-gets : goal.returns-in_err-list-clause-gets
returns-in_err-list-clause-gets g c =
    let h = gets_stop read_argument (λ list. change (alone list)) c.in_err-list.field-0.0 c.args.self.now c.argument.new.self _ _ (rw c.new-delimiter.ensures at c.in_err-list.ensures.gets) in
    search (rules, h)

pub returns-clause-gets : goal.returns-clause-gets
returns-clause-gets g c =
    let list = tokens_at c.argument.new.self.names c.in_ok-list.list in
    let e = c.set_apart.ensures in
    let d = rw c.new-delimiter.ensures at c.in_ok-list.ensures.gets in
    gets_then read_argument (λ list. change (alone list)) list c.set_apart.result c.args.self.now c.argument.new.self c.set_apart.new.self _ _ _ d
    (gets_local (change (alone list)) c.set_apart.result c.argument.new.self c.set_apart.new.self _ e.apart e.kept e.limit e.keeps e.progress e.files d.holds.owns)
