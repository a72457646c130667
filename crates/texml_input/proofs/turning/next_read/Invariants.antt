use Rattle.std.proofs.Common.{◌≡◌, ◌≤◌, ◌+◌, IsTrue, length, vec_len}
use Rattle.texml_token.specs.Numbers.{Extends, Numbered}
use Rattle.texml_scope.specs.Shown.{world_of}
use Rattle.texml_input.specs.Codes.{cats_of, end_of}
use Rattle.texml_input.specs.Next.{next}
use Rattle.texml_input.specs.Held.{fences_of, aside_of, AreSound, AreLittle, SourcesWithin, rest_at, room_of}
use Rattle.texml_input.specs.Keeping.{Holds}
use Rattle.texml_input.specs.Inside.{sources_of}
use Rattle.texml_input.proofs.Onward.{Onward, Spent}
use Rattle.texml_input.proofs.turning.next_read.Given as goal

abbrev pub invariant-loop-fault : goal.invariant-loop-fault
invariant-loop-fault g l =
    let old = g.F.Files.shelf l.initial.files in
    let now = g.F.Files.shelf l.files in
    let a = sources_of l.initial.frames.items in
    let b = sources_of l.frames.items in record {
      onward : IsTrue old.tells → Onward (next (cats_of (world_of l.scope)) (end_of (world_of l.scope)) (rest_at l.initial.names old a) l.initial.place) l.crossed
          (next (cats_of (world_of l.scope)) (end_of (world_of l.scope)) (rest_at l.names now b) l.place);
      spent : IsTrue old.tells → AreLittle a → Spent old now a b (next (cats_of (world_of l.scope)) (end_of (world_of l.scope)) (rest_at l.initial.names old a) l.initial.place) l.crossed
          (next (cats_of (world_of l.scope)) (end_of (world_of l.scope)) (rest_at l.names now b) l.place);
      holds : Holds old now a b;
      fences : fences_of b ≡ fences_of a;
      aside : IsTrue old.tells → aside_of now b ≡ aside_of old a;
      sound : AreSound b;
      little : AreLittle a → AreLittle b;
      within : SourcesWithin (length l.names) b;
      names : l.names ≡ l.initial.names;
      grows : Extends l.initial.names l.names;
      numbered : Numbered l.names;
      lower : room_of now b ≤ room_of old a;
      faults : g.F.Files.faults l.files ≡ g.F.Files.faults l.initial.files;
    }

abbrev pub decreases-loop-fault : goal.decreases-loop-fault
decreases-loop-fault g l = room_of (g.F.Files.shelf l.files) (sources_of l.frames.items) + vec_len l.frames
