use Rattle.std.proofs.Common.{◌≡◌, length, map, IfSome, string_bytes}
use Rattle.texml.specs.Words.{longest}
use Rattle.texml.proofs.Wording.{AreBefore}
use Rattle.texml.proofs.words.read_words.Given as goal

abbrev pub invariant-loop-at : goal.invariant-loop-at
invariant-loop-at g l = record {
  read : IfSome (g.L.CommandLine.told l.line) (AreBefore (map string_bytes l.texts.items) l.at);
  room : length l.room.items ≡ longest;
}
