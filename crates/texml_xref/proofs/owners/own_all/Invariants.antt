use Rattle.std.proofs.Common.{◌≡◌, ℕ, List, map, take}
use Rattle.std.specs.Option.{option_or}
use Rattle.texml_tree.specs.Plain.{mark_of as plain_mark}
use Rattle.texml_xref.specs.Refs.{link_to}
use Rattle.texml_xref.specs.Links.{kept_owner}
use Rattle.texml_xref.proofs.owners.own_all.Given as goal

abbrev pub invariant-loop-tag : goal.invariant-loop-tag
invariant-loop-tag l = (label : List ℕ) → kept_owner l.owners label ≡ option_or (link_to l.owner label (map plain_mark (take l.tag-index l.labels))) (kept_owner l.fn.owners label)
