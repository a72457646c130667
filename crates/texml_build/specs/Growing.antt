-- A tree that grows: the table that it is built by, the operations so far, and whether it has stopped for want of memory.
use Rattle.std.specs.Prelude.{Bool, true, false, List, [], ◌∷◌, ◌++◌, Result, Ok, Err}
use Rattle.texml_tree.specs.declared.table.Elements.{Elements}
use Rattle.texml_tree.specs.declared.ops.Op.{Op}
use Rattle.texml_build.specs.declared.fault.BuildFault.{BuildFault}
use Rattle.texml_build.specs.declared.fault.BuildFault.TheVariants.{Model, NoMemory}

pub record Growing : Type 0 where
  pub table : Elements
  pub ops : List Op
  pub stopped : Bool

-- the tree of no operations
abbrev pub no_ops : Elements → Growing
no_ops table = record { table = table; ops = []; stopped = false }

-- one more operation was done
abbrev pub with_op : Growing → Op → Growing
with_op g op = record g { ops = g.ops ++ op ∷ [] }

-- memory was refused
abbrev pub stopped_now : Growing → Growing
stopped_now g = record g { stopped = true }

-- whether what was done so far ended for want of memory
abbrev pub lacks_memory : Result (Unit {0}) BuildFault → Bool
lacks_memory (Ok u) = false
lacks_memory (Err (Model f)) = false
lacks_memory (Err NoMemory) = true
