use Rattle.std.proofs.Common.{ap, ◌∙◌, subst, arith}
use Rattle.texml_input.specs.Held.{ids_of, AreHeld}
use Rattle.texml_input.specs.Inside.{sources_of}
use Rattle.texml_input.specs.Held.{fences_of}
use Rattle.texml_input.proofs.Emptied.{fences_written, held_frame, holds_more, total_frame}
use Rattle.texml_input.proofs.emptying.close.Goals as goal

pub close_frame-fences-requires : goal.close_frame-fences-requires
close_frame-fences-requires g c =
    held_frame c.in-Some.frame (g.F.Files.shelf c.loop-frame.files).ids (sources_of c.take_front.new.frames.items)
    (subst (λ s. AreHeld (g.F.Files.shelf c.loop-frame.files).ids (ids_of s)) c.in-Some.ensures.sources c.loop-frame.invariant.holds.held)

pub loop-frame-preserved : goal.loop-frame-preserved
loop-frame-preserved g c =
    let fences = ap fences_of c.in-Some.ensures.sources ∙ fences_written c.in-Some.frame (sources_of c.take_front.new.frames.items) in
    let len = c.in-Some.ensures.len in
    record {
      fences = omega (arith, c.loop-frame.invariant.fences, c.close_frame-fences.ensures.fences);
      room = omega (arith, c.loop-frame.invariant.room, c.close_frame-fences.ensures.one, c.take_front.ensures.capacity);
      holds = holds_more (g.F.Files.shelf c.args.files.now) (g.F.Files.shelf c.loop-frame.files) (g.F.Files.shelf c.close_frame-fences.new.files)
          (sources_of c.args.frames.now.items) (sources_of c.loop-frame.frames.items) (sources_of c.take_front.new.frames.items) c.in-Some.frame
          c.loop-frame.invariant.holds c.in-Some.ensures.sources c.close_frame-fences.ensures.closes;
      total = total_frame c.in-Some.frame (g.F.Files.shelf c.loop-frame.files) (g.F.Files.shelf c.close_frame-fences.new.files) c.close_frame-fences.ensures.closes ∙ c.loop-frame.invariant.total;
      faults = c.close_frame-fences.ensures.faults ∙ c.loop-frame.invariant.faults;
    }
