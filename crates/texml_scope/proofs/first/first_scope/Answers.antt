use Rattle.std.proofs.Common.{ap, ◌∙◌, fold}
use Rattle.texml_scope.specs.Texts.{World}
use Rattle.texml_scope.specs.Builtins.{table, with_builtin}
use Rattle.texml_scope.specs.Numbers.{world_at}
use Rattle.texml_scope.proofs.Texts.{world_new}
use Rattle.texml_scope.proofs.first.first_scope.Goals as goal

pub returns-clause-world : goal.returns-clause-world
returns-clause-world c =
    c.in_ok-enter_all.ensures.world ∙ ap (λ (w : World). fold with_builtin w table) (ap (world_at c.args.names.now) c.new-scope.ensures ∙ world_new c.args.names.now)
