use Rattle.std.proofs.Common.{◌-◌, refl, length, take}
use Rattle.texml_expand.specs.Conditionals.{closed}
use Rattle.texml_expand.proofs.Seeking.{rebound_gets}
use Rattle.texml_expand.proofs.engine.Engine.word_comes.Goals as goal

pub returns-in-Fi-clause-gets : goal.returns-in-Fi-clause-gets
returns-in-Fi-clause-gets g c =
    let h = c.args.self.now in
    rw c.in-Fi.is (rebound_gets closed (take (length h.conditionals - 1) h.conditionals) h c.close.new.self _ (λ shelf. refl) c.close.ensures c.requires.running c.requires.sound c.requires.owns)
