use Rattle.std.proofs.Common.{◌≡◌, [], sym, subst, ◌∙◌}
use Rattle.texml_base.specs.Outside.{Shelf}
use Rattle.texml_token.specs.declared.fault_code.TheConstants.{DEPTH}
use Rattle.texml_expand.specs.State.{Tex, Ended, nothing, fault_at}
use Rattle.texml_expand.specs.Expand.{begin}
use Rattle.texml_expand.specs.Held.{Held, state_of, place_of}
use Rattle.texml_expand.specs.contracts.engine.Engine.{the_view}
use Rattle.texml_expand.proofs.Levels.{begin_deep}
use Rattle.texml_expand.proofs.Taking.{silent_fault}
use Rattle.texml_expand.proofs.engine.Engine.begin.Goals as goal

pub returns-then-not-is_spent-clause-begins : goal.returns-then-not-is_spent-clause-begins
returns-then-not-is_spent-clause-begins c =
    let h = the_view c.self.inside in
    let P : Held → Type 0 = λ k. (shelf : Shelf) → begin (state_of shelf k) ≡ Ended (Tex (fault_at DEPTH [] (place_of k))) nothing in
    let deep = subst P c.self.view_is (λ shelf. begin_deep (state_of shelf h) (sym c.is_spent.ensures ∙ c.if-not-is_spent.true) c.if-self-ge-DEEPEST.true) in
    λ shelf. silent_fault (begin (state_of shelf c.args.self.now)) DEPTH [] (place_of c.args.self.now) c.bare_fault.result (state_of shelf c.bare_fault.new.self) (deep shelf) c.bare_fault.ensures.is
