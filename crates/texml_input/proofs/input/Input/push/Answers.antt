use Rattle.texml_input.proofs.Sources.{sound_pushed}
use Rattle.texml_input.proofs.input.Input.push.Goals as goal

pub invariant_of-self-2 : goal.invariant_of-self-2
invariant_of-self-2 c = λ none. sound_pushed _ _ _ c.in_ok-push.ensures.items c.requires (c.self.invariant none)
