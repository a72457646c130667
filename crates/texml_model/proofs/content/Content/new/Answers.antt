use Rattle.std.proofs.Common.{◌∙◌, ap, length}
use Rattle.texml_model.proofs.Looks.{bits_length, prepared}
use Rattle.texml_model.proofs.content.Content.new.Goals as goal

pub all_chains-requires : goal.all_chains-requires
all_chains-requires c = ap length c.as_slice-held.ensures.value ∙ bits_length c.as_slice-lines.result.now c.in_ok-holds.holds.items c.in_ok-holds.ensures

pub invariant_of-result : goal.invariant_of-result
invariant_of-result c =
    prepared c.args.binding_elements.now c.in_ok-elements.elements c.as_slice-lines.result.now c.as_slice.result.now c.in_ok-holds.holds.items c.as_slice-held.result.now
    c.in_ok-attrs.attrs.items c.in_ok-to_text.to_text.items c.in_ok-to_elements.to_elements.items
    c.requires c.in_ok-elements.ensures.cases c.as_slice-lines.ensures c.as_slice.ensures c.as_slice-held.ensures.value
    c.in_ok-holds.ensures c.in_ok-attrs.ensures c.in_ok-to_text.ensures c.in_ok-to_elements.ensures
