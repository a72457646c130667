use Rattle.std.proofs.Common.{length, ap, sym, subst, ◌∙◌}
use Rattle.texml_scope.specs.Numbers.{KeyWithin, ValueWithin, key_at}
use Rattle.texml_expand.specs.State.{Done, nothing}
use Rattle.texml_expand.specs.Variables.{internal_in}
use Rattle.texml_expand.specs.Held.{Held, Sound, state_of}
use Rattle.texml_expand.specs.contracts.engine.Engine.{the_view}
use Rattle.texml_expand.proofs.Fronts.{value_says}
use Rattle.texml_expand.proofs.engine.Engine.value_of.Goals as goal

pub returns-clause-values : goal.returns-clause-values
returns-clause-values c =
    let h : Held = the_view c.self.inside in
    let sound = subst Sound (sym c.self.view_is) c.requires.sound in
    let within = subst (λ (h : Held). KeyWithin (length h.names) c.args.key) (sym c.self.view_is) c.requires.key in
    rw (← c.self.view_is)
    (λ shelf. ap (λ q. Done q (state_of shelf h) nothing) (sym (c.internal_in.ensures.is h.names ∙ ap (internal_in (key_at h.names c.args.key)) (value_says h sound c.args.key within c.in-Ok.value c.in-Ok.ensures.value))))

pub returns-clause-within : goal.returns-clause-within
returns-clause-within c =
    let h : Held = the_view c.self.inside in
    let sound = subst Sound (sym c.self.view_is) c.requires.sound in
    let w = subst (ValueWithin (length h.names)) (sym c.in-Ok.ensures.value) (sound.scope.top.values c.args.key) in
    rw (← c.self.view_is) (c.internal_in.ensures.within (length h.names) w)
