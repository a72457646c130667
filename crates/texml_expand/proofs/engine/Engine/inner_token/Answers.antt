use Rattle.std.proofs.Common.{rules}
use Rattle.texml_expand.specs.Take.{take}
use Rattle.texml_expand.specs.Least.{inside}
use Rattle.texml_expand.proofs.Getting.{gets_stop}
use Rattle.texml_expand.proofs.engine.Engine.inner_token.Goals as goal

pub returns-in_err-read-clause-gets : goal.returns-in_err-read-clause-gets
returns-in_err-read-clause-gets g c =
    let h = gets_stop take inside c.in_err-read.field-0.0 c.args.self.now c.take_front.new.self _ _ c.in_err-read.ensures.gets in
    search (rules, h)
