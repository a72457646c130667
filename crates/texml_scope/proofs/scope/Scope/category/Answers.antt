use Rattle.std.proofs.Common.{◌<◌, sym, subst}
use Rattle.texml_scope.specs.declared.values.KeyOf.TheVariants.{Cat}
use Rattle.texml_scope.specs.Shown.{world_of, entries_of}
use Rattle.texml_scope.proofs.Keeping.{category_number}
use Rattle.texml_scope.proofs.scope.Scope.category.Goals as goal

pub returns-then-code-lt128-clause-below : goal.returns-then-code-lt128-clause-below
unfolding world_of
returns-then-code-lt128-clause-below c =
    let is = category_number (entries_of c.self.inside.table (Cat c.args.code)).value (c.self.invariant.kinds.top (Cat c.args.code)) in
    subst (λ n. n < 16) (sym (c.category.ensures is.0 is.1 is.2)) is.1
