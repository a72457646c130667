-- The name that a place shares with its file.
use Rattle.std.specs.Prelude.{ℕ, List, [], Option, Some, None}
use Rattle.std.specs.declared.alloc.Global.{Global}
use Rattle.std.specs.declared.rc.Rc.{Rc}
use Rattle.texml_token.specs.declared.bytes.Bytes.{Bytes}

-- the name, which is empty where there is none
abbrev pub shared_name : Option (Rc Bytes Global) → List ℕ
shared_name None = []
shared_name (Some name) = name.value
