-- The small table of the tests is a content model.
use Rattle.std.proofs.Common.{◌≡◌, refl, sym, subst}
use Rattle.texml_tree.specs.declared.table.Elements.{Elements}
use Rattle.texml_model.specs.Rules.{IsContentModel}
use Rattle.texml_build.specs.Small.{small}

small_is_model : IsContentModel small
small_is_model = record { names = refl; root = refl; held = refl; attributes = refl; attrs = refl; void = refl }

pub is_model : (elements : Elements) → elements ≡ small → IsContentModel elements
is_model elements h = subst IsContentModel (sym h) small_is_model
