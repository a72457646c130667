-- What `build` answers.
use Rattle.std.specs.Prelude.{◌≡◌, Result, Ok, Err}
use Rattle.texml_tree.specs.declared.model_fault.ModelFault.{ModelFault}
use Rattle.texml_tree.specs.declared.tree.Tree.{Tree as TreeCode}
use Rattle.texml_tree.specs.Tree.{Tree}
use Rattle.texml_tree.specs.Plain.{tree_of}
use Rattle.texml_build.specs.declared.fault.BuildFault.{BuildFault}
use Rattle.texml_build.specs.declared.fault.BuildFault.TheVariants.{Model, NoMemory}

-- the tree or the model fault that was meant, or want of memory
abbrev pub Builds : Result Tree ModelFault → Result TreeCode BuildFault → Type 0
Builds meant (Ok t) = meant ≡ Ok (tree_of t)
Builds meant (Err (Model f)) = meant ≡ Err f
Builds meant (Err NoMemory) = Unit {0}
