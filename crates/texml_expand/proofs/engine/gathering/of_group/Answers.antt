use Rattle.texml_expand.proofs.Gatherer.{group_closed, group_goes_on}
use Rattle.std.proofs.Common.{sym, ◌∙◌, rules}
use Rattle.texml_expand.proofs.engine.gathering.of_group.Goals as goal

pub returns-then-branch-clause-is : goal.returns-then-branch-clause-is
returns-then-branch-clause-is c = λ texts world.
    let h = group_closed texts world c.args.gathered.now c.args.read c.if-read.false (sym c.if-branch.true ∙ c.in_ok-closes.ensures texts) in
    search (rules, h)

pub returns-clause-is : goal.returns-clause-is
returns-clause-is c = λ texts world. group_goes_on texts world c.args.gathered.now c.args.read c.if-read.false (sym c.if-branch.false ∙ c.in_ok-closes.ensures texts)
