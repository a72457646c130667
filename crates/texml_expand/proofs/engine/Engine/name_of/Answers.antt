use Rattle.std.proofs.Common.{ap, ap₂, sym, subst, ◌∙◌}
use Rattle.texml_token.specs.Numbers.{Extends, text_at}
use Rattle.texml_scope.specs.Shown.{world_of}
use Rattle.texml_scope.specs.Numbers.{world_at}
use Rattle.texml_expand.specs.Names.{with_name}
use Rattle.texml_expand.specs.Held.{Held, Sound}
use Rattle.texml_expand.proofs.Named.{grown_sound, grown_world, name_alone, where_ok}
use Rattle.texml_expand.proofs.engine.Engine.name_of.Goals as goal

pub intern-requires : goal.intern-requires
intern-requires c = c.in_ok-text.ensures.scalars _ c.requires.within

pub relax-requires-clause-sound : goal.relax-requires-clause-sound
relax-requires-clause-sound c =
    let names = c.intern.new.self in
    let grows = subst (λ (h : Held). Extends h.names names) c.self.view_is c.in_ok-name.ensures.grows in
    subst (λ (h : Held). Sound (record h { names = names })) (sym c.self.view_is) (grown_sound c.args.self.now names c.requires.sound grows c.in_ok-name.ensures.numbered)

pub returns-clause-world : goal.returns-clause-world
returns-clause-world c =
    let h = c.args.self.now in
    let names = c.intern.new.self in
    let grows = subst (λ (h : Held). Extends h.names names) c.self.view_is c.in_ok-name.ensures.grows in
    let text = c.in_ok-name.ensures.text ∙ c.in_ok-text.ensures.is h.names in
    let world = ap (λ (x : Held). world_at names (world_of x.scope)) c.self.view_is ∙ grown_world h names c.requires.sound grows in
    where_ok c.from_slice.result _ (c.in_ok-relax.ensures.world ∙ ap₂ with_name text world)

pub returns-clause-is : goal.returns-clause-is
returns-clause-is c =
    let h = c.args.self.now in
    let texts = c.relax.new.self.names in
    let same = ap (λ (x : Held). text_at x.names c.in_ok-name.name.0) c.in_ok-relax.ensures.same in
    name_alone c.from_slice.result texts c.in_ok-name.name _ c.from_slice.ensures c.in_ok-name.ensures.within.0 (same ∙ c.in_ok-name.ensures.text ∙ c.in_ok-text.ensures.is h.names)
