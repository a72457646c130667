use Rattle.std.proofs.Common.{sym, subst}
use Rattle.texml_input.specs.Held.{AreSound}
use Rattle.texml_input.specs.Inside.{sources_of}
use Rattle.texml_input.proofs.Sources.{sound_ended}
use Rattle.texml_input.proofs.input.Input.end_file.Goals as goal

pub invariant_of-self : goal.invariant_of-self
invariant_of-self c = λ none. subst AreSound (sym c.end_file_of.ensures) (sound_ended (sources_of c.self.inside.frames.items) (c.self.invariant none))
