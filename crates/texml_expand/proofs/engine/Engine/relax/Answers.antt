use Rattle.std.proofs.Common.{◌≡◌, true, sym, ap, ◌∙◌, rules}
use Rattle.texml_scope.specs.Groups.{set_local}
use Rattle.texml_scope.specs.Shown.{world_of}
use Rattle.texml_scope.specs.Numbers.{world_at}
use Rattle.texml_scope.specs.Values.{same_key}
use Rattle.texml_scope.specs.declared.builtins.TheConstants.{RELAX}
use Rattle.texml_scope.specs.declared.values.KeyOf.TheVariants.{Name}
use Rattle.texml_scope.specs.declared.values.ValueOf.TheVariants.{Means}
use Rattle.texml_scope.specs.declared.values.MeaningOf.TheVariants.{Builtin}
use Rattle.texml_expand.specs.Held.{Held, world_in}
use Rattle.texml_expand.proofs.Named.{relaxed}
use Rattle.texml_expand.proofs.engine.Engine.relax.Goals as goal

pub returns-clause-world : goal.returns-clause-world
returns-clause-world c =
    let h = c.args.self.now in
    let n = c.args.name in
    let lacks : c.in_ok-lacks_meaning.field-0 ≡ true = search rules in
    ap world_in c.wrote.ensures ∙ ap (world_at c.self.inside.names) c.in_ok-set.ensures.ok
    ∙ ap (λ (x : Held). world_at x.names (set_local same_key (Name n) (Means (Builtin RELAX)) (world_of x.scope))) c.self.view_is
    ∙ relaxed h c.requires.sound.numbered n c.requires.given c.requires.within (sym c.in_ok-lacks_meaning.ensures ∙ lacks)
