-- The linked tree that a linked tree in an arena stands for.
use Rattle.texml_tree.specs.Plain.{tree_of}
use Rattle.texml_xref.specs.declared.linked.Linked.{Linked}
use Rattle.texml_xref.specs.Refs.{LinkedTree}
use Rattle.texml_xref.specs.Links.{place_of}

abbrev pub linked_of : Linked → LinkedTree
linked_of l = record { tree = tree_of l.tree; reference = place_of l.reference; sections = l.sections }
