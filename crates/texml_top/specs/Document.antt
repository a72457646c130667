-- The document of a list of operations, as it is written.
use Rattle.std.specs.Prelude.{◌≡◌, ℕ, List, Result, Ok, Err}
use Rattle.texml_tree.specs.declared.ops.Op.{Op}
use Rattle.texml_tree.specs.declared.model_fault.ModelFault.{ModelFault}
use Rattle.texml_tree.specs.Tree.{Tree}
use Rattle.texml_build.specs.Matched.{built}
use Rattle.texml_build.specs.Valid.{Valid}
use Rattle.texml_xref.specs.Refs.{linked}
use Rattle.texml_html.specs.Html.{html}
use Rattle.texml_top.specs.Table.{rules}
use Rattle.texml_top.specs.Gather.{gathered}
use Rattle.texml_top.specs.References.{IsCrossReferenced}

-- the HTML of the linked tree
unfoldable pub page_of : Tree → List ℕ
page_of tree = html rules (linked rules tree)

abbrev pub page_by : Result Tree ModelFault → Result (List ℕ) ModelFault
page_by (Ok tree) = Ok (page_of tree)
page_by (Err f) = Err f

-- the page of the tree that the operations make, or what is wrong with them first
unfoldable pub document : List Op → Result (List ℕ) ModelFault
document ops = page_by (built rules ops)

-- it is the page of a valid tree whose references are linked
pub record IsPage (bytes : List ℕ) : Type 0 where
  pub tree : Tree
  pub valid : Valid rules tree
  pub referenced : IsCrossReferenced (linked rules tree)
  pub is : bytes ≡ page_of tree

-- the law: texts that go on as one make the same document
abbrev pub GatheringKeepsTheDocument : Type 0
GatheringKeepsTheDocument = (ops : List Op) → document (gathered ops) ≡ document ops
