use Rattle.texml_expand.specs.declared.machine.Scanned.{Scanned}
use Rattle.texml_expand.specs.declared.machine.Scanned.TheVariants.{Expanded, Raw, Asked, Decided, Faulty}
use Rattle.texml_expand.specs.Machine.{Asks}
use Rattle.texml_expand.proofs.machine.turned.Goals as goal

-- what isn't asked for
asks_none : (s : Scanned) (P : Type 0) → Asks s ⊥ → Asks s P
asks_none Expanded P h = tt
asks_none Raw P h = tt
asks_none Asked P h = absurd h
asks_none (Decided v n) P h = tt
asks_none (Faulty f) P h = tt

pub returns-in-More-clause-asked : goal.returns-in-More-clause-asked
returns-in-More-clause-asked g c = asks_none c.at_first.result _ c.at_first.ensures.asked
