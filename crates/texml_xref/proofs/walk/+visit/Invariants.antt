use Rattle.std.proofs.Common.{List, drop}
use Rattle.texml_tree.specs.Tree.{Head}
use Rattle.texml_tree.specs.Plain.{plain}
use Rattle.texml_xref.specs.Refs.{heads}
use Rattle.texml_xref.specs.Links.{place_of}
use Rattle.texml_xref.specs.Found.{HasFound}
use Rattle.texml_xref.proofs.Walks.{IsThere}
use Rattle.texml_xref.proofs.walk.+visit.Given as goal

abbrev pub invariant-loop-child : goal.invariant-loop-child
invariant-loop-child l = (hs : List Head) → HasFound (place_of l.kinds.reference) (place_of l.kinds.section) l.fn.found hs
    → IsThere (place_of l.kinds.reference) (place_of l.kinds.section) l.found hs (heads (plain l.node)) (drop l.child-index l.child-items)
