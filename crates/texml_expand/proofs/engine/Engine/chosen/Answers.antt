use Rattle.std.proofs.Common.{refl, slice_set}
use Rattle.texml_expand.specs.Conditionals.{bounded}
use Rattle.texml_expand.proofs.Seeking.{rebound_gets}
use Rattle.texml_expand.proofs.engine.Engine.chosen.Goals as goal

pub returns-in-Comes-clause-gets : goal.returns-in-Comes-clause-gets
returns-in-Comes-clause-gets g c =
    let h = c.args.self.now in
    rw c.in-Comes.is (rebound_gets (bounded c.args.at c.in-Comes.limit) (slice_set h.conditionals c.args.at c.in-Comes.limit) h c.bound.new.self _ (λ shelf. refl) c.bound.ensures c.requires.running c.requires.sound c.requires.owns)
