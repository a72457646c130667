use Rattle.std.proofs.Common.{[], Ok, sym, ◌∙◌}
use Rattle.texml_match.specs.Shape.{shape_at}
use Rattle.texml_match.specs.Arguments.{reading}
use Rattle.texml_expand.specs.State.{give}
use Rattle.texml_expand.specs.Arguments.{read_by}
use Rattle.texml_expand.proofs.Called.{nothing_read}
use Rattle.texml_expand.proofs.Getting.{gets_as, gets_now}
use Rattle.texml_expand.proofs.engine.Engine.arguments.Goals as goal

pub returns-then-is_empty-clause-gets : goal.returns-then-is_empty-clause-gets
returns-then-is_empty-clause-gets g c =
    let h = c.args.self.now in
    let shape = c.args.shape.now in
    rw c.new.ensures
    (gets_as (give []) (read_by (reading (shape_at h.names shape))) (Ok []) h h _ _ (nothing_read h.names shape.prefix shape.delimiters shape.long _ (sym c.is_empty.ensures ∙ c.if-is_empty.true))
    (gets_now [] h _ c.requires.sound c.requires.running c.requires.owns))
