use Rattle.std.proofs.Common.{sym, subst}
use Rattle.texml_input.specs.Held.{AreSound, fences_of}
use Rattle.texml_input.specs.Inside.{sources_of}
use Rattle.texml_input.proofs.Sources.{sound_fences}
use Rattle.texml_input.proofs.input.Input.end_input.Goals as goal

pub invariant_of-self : goal.invariant_of-self
invariant_of-self g c = λ none. subst AreSound (sym c.empty.ensures.empty) (sound_fences (fences_of (sources_of c.self.inside.frames.items)))
