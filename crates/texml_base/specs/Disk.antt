-- What an open file of the real folder may still give.
use Rattle.std.specs.Prelude.{ℕ, List, [], false, None, Some}
use Rattle.std.specs.declared.option.Option.{Option}
use Rattle.texml_base.specs.Outside.{Shelf}
use Rattle.texml_base.specs.Opened.{ids_of, held}
use Rattle.texml_base.specs.declared.opened.Opened.{Opened}
use Rattle.texml_base.specs.declared.disk.DiskFile.{DiskFile}
use Rattle.texml_base.specs.declared.disk.DiskFiles.{DiskFiles}

abbrev pub budget_of : {F : Type 0} → Option (DiskFile F) → ℕ
budget_of None = 0
budget_of (Some f) = f.budget

-- a folder that tells nothing, with these ids and their numbers
abbrev pub untold : List ℕ → (ℕ → ℕ) → Shelf
untold ids number = record {
  tells = false;
  contents = λ _. None;
  ids = ids;
  given = λ _. [];
  left = λ _. [];
  number = number;
  total = 0;
}

-- what open files of the real folder stand for
abbrev pub disk_shelf : {F : Type 0} → List (Opened (DiskFile F)) → Shelf
disk_shelf opened = untold (ids_of opened) (λ id. budget_of (held opened id))

-- what the real folder stands for
abbrev pub folder_shelf : {R F D : Type 0} → DiskFiles R F D → Shelf
folder_shelf d = disk_shelf d.opened.items

abbrev pub folder_faults : {R F D : Type 0} → DiskFiles R F D → ℕ
folder_faults d = d.faults.count

-- the bytes that a file has left, where std tells them
abbrev pub remaining_of : {F : Type 0} → (F → Option (List ℕ)) → Option (DiskFile F) → Option (List ℕ)
remaining_of remaining None = None
remaining_of remaining (Some f) = remaining f.file

-- the same of the open file of an id
abbrev pub remaining_at : {R F D : Type 0} → (F → Option (List ℕ)) → DiskFiles R F D → ℕ → Option (List ℕ)
remaining_at remaining d id = remaining_of remaining (held d.opened.items id)
