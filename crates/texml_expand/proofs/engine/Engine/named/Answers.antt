use Rattle.std.proofs.Common.{ap, ap₂, sym, ◌∙◌}
use Rattle.texml_token.specs.Numbers.{tokens_at}
use Rattle.texml_expand.specs.State.{Done, nothing}
use Rattle.texml_expand.specs.Calls.{Puts}
use Rattle.texml_expand.specs.Names.{text_of}
use Rattle.texml_expand.specs.Held.{state_of}
use Rattle.texml_expand.proofs.Named.{named_state}
use Rattle.texml_expand.proofs.engine.Engine.named.Goals as goal

pub returns-in-Ok-clause-names : goal.returns-in-Ok-clause-names
returns-in-Ok-clause-names c = λ shelf.
    let h = c.args.self.now in
    let new = c.name_of.new.self in
    let e = c.in-Ok.ensures in
    let text = text_of (tokens_at h.names c.args.list.now) in
    let state = ap (state_of shelf) e.same ∙ named_state h new.names new.scope new.writes text shelf c.requires.sound e.grows e.world in
    ap₂ (λ l s. Done (Puts l) s nothing) (sym e.is) (sym state)
