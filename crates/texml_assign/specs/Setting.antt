-- What setting a value in the code's scope does, as a private contract says it.
use Rattle.std.specs.Prelude.{Bool, if◌then◌else◌}
use Rattle.texml_scope.specs.Groups.{set_local, set_global}
use Rattle.texml_scope.specs.Values.{same_key}
use Rattle.texml_scope.specs.World.{World}
use Rattle.texml_scope.specs.Shown.{KeyCode, ValueCode}

abbrev pub set_by : Bool → KeyCode → ValueCode → World → World
set_by global k v w = if global then set_global same_key k v w else set_local same_key k v w
