-- Files by their names.
use Rattle.std.specs.Prelude.{ℕ, List, [], ◌∷◌, if◌then◌else◌, None, Some, string_bytes}
use Rattle.std.specs.Str.{bytes_eq}
use Rattle.std.specs.declared.option.Option.{Option}
use Rattle.texml_base.specs.declared.named.NamedFile.{NamedFile}

-- the bytes of the first file of this name
abbrev pub look_up : List NamedFile → List ℕ → Option (List ℕ)
look_up [] name = None
look_up (f ∷ fs) name = if bytes_eq (string_bytes f.name) name then Some f.bytes.items else look_up fs name
