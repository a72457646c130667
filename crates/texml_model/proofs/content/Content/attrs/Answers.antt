use Rattle.std.proofs.Common.{◌∙◌, ap, []}
use Rattle.std.specs.List.{slice_get}
use Rattle.std.specs.Option.{option_map_or}
use Rattle.texml_model.proofs.Models.{attrs_seen}
use Rattle.texml_model.proofs.Looks.{attrs_is}
use Rattle.texml_model.proofs.content.Content.attrs.Goals as goal

pub returns-clause-known : goal.returns-clause-known
returns-clause-known c = attrs_seen c.self.inside.elements c.args.self.now c.args.elem.0 _ c.self.view_is c.self.invariant.model
    (c.row_at.ensures ∙ ap (λ rows. option_map_or (λ row. row.items) (slice_get rows c.args.elem.0) []) c.as_slice.ensures.value ∙ attrs_is c.self.inside.elements c.self.inside.attrs.items c.args.elem.0 c.self.invariant.attrs)
