use Rattle.std.proofs.Common.{length, sym, subst}
use Rattle.texml_scope.specs.Numbers.{KeyWithin, ValueWithin}
use Rattle.texml_expand.specs.Held.{Held, Sound}
use Rattle.texml_expand.specs.contracts.engine.Engine.{the_view}
use Rattle.texml_expand.proofs.Fronts.{value_says}
use Rattle.texml_expand.proofs.engine.Engine.value.Goals as goal

pub returns-clause-is : goal.returns-clause-is
returns-clause-is c =
    let h : Held = the_view c.self.inside in
    let sound = subst Sound (sym c.self.view_is) c.requires.sound in
    let within = subst (λ (h : Held). KeyWithin (length h.names) c.args.key.now) (sym c.self.view_is) c.requires.key in
    rw (← c.self.view_is) (value_says h sound c.args.key.now within c.in_ok-value.value c.in_ok-value.ensures.value)

pub returns-clause-within : goal.returns-clause-within
returns-clause-within c =
    let h : Held = the_view c.self.inside in
    let sound = subst Sound (sym c.self.view_is) c.requires.sound in
    rw (← c.self.view_is) (subst (ValueWithin (length h.names)) (sym c.in_ok-value.ensures.value) (sound.scope.top.values c.args.key.now))
