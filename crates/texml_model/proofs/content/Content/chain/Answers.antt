use Rattle.std.proofs.Common.{◌∙◌, ap, sym}
use Rattle.std.specs.List.{slice_get}
use Rattle.std.specs.Option.{option_map, option_and_then}
use Rattle.texml_model.specs.Chain.{chain_between}
use Rattle.texml_model.specs.Rules.{rules_of, holding_in}
use Rattle.texml_model.specs.Levels.{at, chain_lists}
use Rattle.texml_model.proofs.Looks.{chain_to_is}
use Rattle.texml_model.proofs.content.Content.chain.Goals as goal

pub returns-in-Some-clause-value : goal.returns-in-Some-clause-value
unfolding rules_of
returns-in-Some-clause-value c =
    c.chain_to.ensures
    ∙ ap (λ all. option_and_then (λ found. at (chain_lists found.items) c.args.parent.0) (slice_get all c.in-Some.elem.0)) c.as_slice-in-Some.ensures.value
    ∙ chain_to_is c.self.inside.elements c.self.inside.to_elements.items c.in-Some.elem.0 c.self.invariant.to_elements c.args.parent.0
    ∙ (λ i. chain_between (holding_in (c.self.view_is i)) c.args.parent.0 (option_map (λ e. e.0) (sym c.in-Some.is i)))
