use Rattle.std.proofs.Common.{◌≡◌, map, take}
use Rattle.std.specs.Option.{option_map}
use Rattle.texml_tree.specs.Tree.{value_of}
use Rattle.texml_tree.specs.Plain.{set_of}
use Rattle.texml_tree.proofs.tree.last_value.Given as goal

abbrev pub invariant-loop-attr : goal.invariant-loop-attr
invariant-loop-attr l = option_map (λ v. v.now) l.value ≡ value_of l.at (map set_of (take l.attr-index l.attrs))
