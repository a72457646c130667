use Rattle.std.proofs.Common.{◌≡◌, false}
use Rattle.texml_text.specs.Reader.{Touches, has_feed}
use Rattle.texml_text.specs.Inside.{Filled}
use Rattle.texml_text.proofs.reader.read_line.Given as goal

abbrev pub invariant-loop-files : goal.invariant-loop-files
invariant-loop-files g l = record {
  touches : Touches (g.F.Files.shelf l.initial.files) (g.F.Files.shelf l.files) l.id;
  filled : Filled (g.F.Files.shelf l.initial.files) (g.F.Files.shelf l.files) l.id l.initial.bytes.items l.bytes.items;
  no_feed : has_feed l.bytes.items ≡ false;
  faults : g.F.Files.faults l.files ≡ g.F.Files.faults l.initial.files;
}

abbrev pub decreases-loop-files : goal.decreases-loop-files
decreases-loop-files g l = (g.F.Files.shelf l.files).number l.id
