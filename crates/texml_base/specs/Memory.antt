-- What files in memory stand for.
use Rattle.std.specs.Prelude.{ℕ, List, [], true, take, drop, length, None, Some}
use Rattle.std.specs.declared.option.Option.{Option}
use Rattle.texml_base.specs.Outside.{Shelf}
use Rattle.texml_base.specs.Rising.{add_up}
use Rattle.texml_base.specs.Opened.{ids_of, held}
use Rattle.texml_base.specs.Named.{look_up}
use Rattle.texml_base.specs.declared.reading.Reading.{Reading}
use Rattle.texml_base.specs.declared.memory_files.CalmFiles.{CalmFiles}
use Rattle.texml_base.specs.declared.memory_files.MemoryFiles.{MemoryFiles}

abbrev pub given_by : Option Reading → List ℕ
given_by None = []
given_by (Some r) = take r.at r.bytes.items

abbrev pub left_in : Option Reading → List ℕ
left_in None = []
left_in (Some r) = drop r.at r.bytes.items

abbrev pub calm_shelf : CalmFiles → Shelf
calm_shelf files = record {
  tells = true;
  contents = look_up files.named.items;
  ids = ids_of files.opened.items;
  given = λ id. given_by (held files.opened.items id);
  left = λ id. left_in (held files.opened.items id);
  number = λ id. length (left_in (held files.opened.items id));
  total = files.given;
}

-- it never fails
abbrev pub calm_faults : CalmFiles → ℕ
calm_faults files = 0

-- how many bytes a read gives at most
abbrev pub calm_piece : CalmFiles → ℕ
calm_piece files = files.piece

abbrev pub memory_shelf : MemoryFiles → Shelf
memory_shelf m = calm_shelf m.files

abbrev pub memory_faults : MemoryFiles → ℕ
memory_faults m = m.faults.count

abbrev pub memory_piece : MemoryFiles → ℕ
memory_piece m = calm_piece m.files

-- the number of the next open or read call
abbrev pub next_call : MemoryFiles → ℕ
next_call m = add_up m.alarm.calls 1

-- the number of the call that fails, or 0
abbrev pub failing_call : MemoryFiles → ℕ
failing_call m = m.alarm.at
